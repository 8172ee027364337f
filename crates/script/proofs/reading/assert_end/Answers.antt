-- `script::assert_end` meets its contract. Assumes nothing.
use mathlib.Core.Path.{◌≡◌, subst}
use mathlib.Core.List.{[], ◌∷◌, ◌++◌}
use Prim.Native.Nat.{ℕ, ◌/◌, ◌≤◌, ◌<◌}
use native.Mathlib.Omega.{arith}
use lib.ListN.{length}
use Rattle.meaning.specs.Limits.{most_clauses, most_alternatives}
use Rattle.meaning.specs.declared.Refusal.TheVariants.{Clauses, Triples}
use Rattle.script.specs.Reading.{with_clause}
use Rattle.script.specs.Notes.{RulesAre}
use Rattle.script.proofs.Taking.{clause-refused, clause-too-long, claused, clause-taken, kept_on, took-refused, took-going}
use Rattle.script.proofs.reading.assert_end.Goals as goal

pub returns-then-notes-ge-CLAUSES : goal.returns-then-notes-ge-CLAUSES
returns-then-notes-ge-CLAUSES c =
    let r = c.args.notes in
    let full : most_clauses ≤ r.rules.clauses = omega arith in
    record {
      took = λ text piece ready.
          took-refused text piece r ready with_clause Clauses 0 c.into.ensures (λ R a. clause-refused R (rw a.rules-are.clauses-are full));
    }

pub returns-then-notes-gt-ALTERNATIVES : goal.returns-then-notes-gt-ALTERNATIVES
returns-then-notes-gt-ALTERNATIVES c =
    let r = c.args.notes in
    let room : r.rules.clauses < most_clauses = omega arith in
    let over : most_alternatives < r.rules.alternatives = omega arith in
    record {
      took = λ text piece ready.
          took-refused text piece r ready with_clause Triples 0 c.into-then-notes-gt-ALTERNATIVES.ensures (λ R a. clause-too-long R (rw a.rules-are.clauses-are room) (rw a.rules-are.many-are (omega arith)));
    }

pub returns : goal.returns
returns c =
    let r = c.args.notes in
    let room : r.rules.clauses < most_clauses = omega arith in
    let most : r.rules.alternatives ≤ most_alternatives = omega arith in
    let more = c.with_clause-rules.result in
    let ends = c.with_clause-rules.ensures in
    record {
      took = λ text piece ready.
          let k = kept_on text piece r ready in
          took-going text piece r ready with_clause (record { names = r.names; new = r.new; x = r.x; y = r.y; rules = more }) claused
          (record {
            names-within = k.names-within;
            new-within = k.new-within;
            few-clauses = omega (arith, ends.one_more);
            few = omega (arith, ends.same-many, k.few);
          })
          (λ R a. clause-taken R (rw a.rules-are.clauses-are room) (rw a.rules-are.many-are (omega arith)))
          (λ R a.
          let third : r.rules.alternatives ≡ length R.triples / 3 = omega (arith, a.rules-are.many-are) in
          record {
            names-are = a.names-are;
            new_is = a.new_is;
            x-is = a.x-is;
            y-is = a.y-is;
            rules-are = subst (λ (m : ℕ). RulesAre more R.triples (R.counts ++ (m ∷ []))) third (ends.stands R.triples R.counts a.rules-are);
          });
    }

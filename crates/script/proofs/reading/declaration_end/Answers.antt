-- `script::declaration_end` meets its contract. Assumes nothing.
use mathlib.Core.Path.{◌≡◌, ap₂, ◌∙◌}
use mathlib.Core.List.{List, [], ◌∷◌, ◌++◌}
use Prim.Native.Nat.{ℕ, ◌≤◌, ◌<◌}
use native.Mathlib.Omega.{arith}
use borrow.Author.Rules.{rules}
use lib.ListN.{length}
use Rattle.meaning.specs.Limits.{most_events}
use Rattle.meaning.specs.declared.Refusal.TheVariants.{Events}
use Rattle.script.specs.Reading.{with_name}
use Rattle.script.proofs.Declaring.{names-count}
use Rattle.script.proofs.Taking.{name-refused, named, name-taken, kept_on, took-refused, took-going}
use Rattle.script.proofs.reading.declaration_end.Goals as goal

pub returns-then-notes-ge-EVENTS : goal.returns-then-notes-ge-EVENTS
returns-then-notes-ge-EVENTS c =
    let r = c.args.notes in
    let s : length r.names.spans ≡ most_events = search rules in
    let full : most_events ≤ r.names.n = omega arith in
    record {
      took = λ text piece ready.
          took-refused text piece r ready with_name Events 0 c.into.ensures (λ R a. name-refused R (rw (← a.names-are, names-count text r.names ready.kept.names-within.few s) full));
    }

pub returns : goal.returns
returns c =
    let r = c.args.notes in
    let s : length r.names.spans ≡ most_events = search rules in
    let room : r.names.n < most_events = omega arith in
    let more = c.with_name-names.result in
    let gains = c.with_name-names.ensures in
    record {
      took = λ text piece ready.
          let k = kept_on text piece r ready in
          took-going text piece r ready with_name (record { names = more; new = r.new; x = r.x; y = r.y; rules = r.rules }) named
          (record {
            names-within = gains.within text k.names-within k.new-within;
            new-within = k.new-within;
            few-clauses = k.few-clauses;
            few = k.few;
          })
          (λ R a. name-taken R (rw (← a.names-are, names-count text r.names ready.kept.names-within.few s) room))
          (λ R a.
          record {
            names-are = gains.named text k.names-within ∙ ap₂ (λ (l : List (List ℕ)) (w : List ℕ). l ++ (w ∷ [])) a.names-are a.new_is;
            new_is = a.new_is;
            x-is = a.x-is;
            y-is = a.y-is;
            rules-are = a.rules-are;
          });
    }

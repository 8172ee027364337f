-- `script::bound` meets its contract: the numeral is a bound within the limit, or 6. Assumes nothing.
use mathlib.Core.Path.{◌≡◌, sym, ◌∙◌}
use Rattle.std.specs.Prelude.{None, Some}
use mathlib.Core.List.{List, [], ◌∷◌, ◌++◌}
use Prim.Native.Nat.{ℕ}
use native.Mathlib.Omega.{arith}
use mir.Syntax.{w32}
use mir.Val.{of_z, to_z}
use mir.Facts.{to_z-of_z}
use lib.IntN.{ℤ, pos}
use Rattle.meaning.specs.Limits.{most_bound}
use Rattle.meaning.specs.declared.Refusal.TheVariants.{Bound}
use Rattle.dialogue.specs.Words.{unsigned_of}
use Rattle.dialogue.proofs.Spelling.{most-read}
use Rattle.script.specs.declared.rules.Rules.{Rules}
use Rattle.script.specs.Reading.{signed, with_bound}
use Rattle.script.specs.Notes.{word_at, RulesAre}
use Rattle.script.proofs.Taking.{kept_on, took-refused, took-going, bound-refused, bounded, bound-taken}
use Rattle.script.proofs.reading.bound.Goals as goal

-- the same numbers, under other names
said : (r : Rules) (triples : List ℤ) (counts : List ℕ) {x x' y y' : ℕ} {c c' : ℤ} → x ≡ x' → y ≡ y' → c ≡ c' → RulesAre r (triples ++ (pos x ∷ pos y ∷ c ∷ [])) counts → RulesAre r (triples ++ (pos x' ∷ pos y' ∷ c' ∷ [])) counts
said r triples counts e f g h = rw (e, f, g) at h

pub bound_of-requires : goal.bound_of-requires
bound_of-requires c =
    most-read most_bound c.word.result.now c.in-Some.ensures

pub returns : goal.returns
returns c =
    let r = c.args.notes in
    let ready = c.requires in
    let text = c.args.text.now in
    let w = word_at text c.args.numeral in
    let v : ℕ = c.in-Some.value in
    let e : unsigned_of most_bound w ≡ Some v = rw c.word.ensures at (sym c.in-Some.ensures) in
    let more = c.with_alternative-rules.result in
    let adds = c.with_alternative-rules.ensures in
    let k = kept_on text c.args.numeral r ready in
    let b : to_z w32 (of_z w32 c.bound_of.result) ≡ signed c.args.negated v = to_z-of_z {w = w32} {z = c.bound_of.result} (record { sfits = c.bound_of.type_inv }) ∙ c.bound_of.ensures in
    took-going text c.args.numeral r ready (with_bound c.args.negated (unsigned_of most_bound w)) (record { names = r.names; new = r.new; x = r.x; y = r.y; rules = more }) (λ R. bounded R c.args.negated v)
    (record {
      names-within = k.names-within;
      new-within = k.new-within;
      few-clauses = omega (arith, adds.same-clauses, k.few-clauses);
      few = omega (arith, adds.one_more, ready.kept.few, ready.some);
    })
    (λ R a. bound-taken R c.args.negated v (unsigned_of most_bound w) e)
    (λ R a.
    record {
      names-are = a.names-are;
      new_is = a.new_is;
      x-is = a.x-is;
      y-is = a.y-is;
      rules-are = said more R.triples R.counts a.x-is a.y-is b (adds.stands R.triples R.counts a.rules-are);
    })

pub returns-in_default : goal.returns-in_default
returns-in_default c =
    let text = c.args.text.now in
    let w = word_at text c.args.numeral in
    let e : unsigned_of most_bound w ≡ None = rw (c.in_default.is, c.word.ensures) at (sym c.unsigned_of.ensures) in
    took-refused text c.args.numeral c.args.notes c.requires (with_bound c.args.negated (unsigned_of most_bound w)) Bound 0 c.into.ensures (λ R a. bound-refused R c.args.negated (unsigned_of most_bound w) e)

-- What the used front of a script's arrays says: what was read, nothing cut off, and a problem that 01 accepts. Assumes nothing.
use mathlib.Core.Path.{◌≡◌, refl, ap, ap₂, ◌∙◌}
use mathlib.Core.List.{List, ◌++◌}
use Prim.Native.Nat.{ℕ, ◌*◌, ◌/◌, ◌≤◌}
use native.Mathlib.Omega.{arith}
use lib.IntN.{ℤ, pos}
use lib.ListN.{length, take, replicate}
use lib.Seq.{take-append_seam, take-take}
use Rattle.meaning.specs.Limits.{most_clauses, most_alternatives}
use Rattle.meaning.specs.Screen.{problem_refusal}
use Rattle.std.specs.Prelude.{Result, Ok}
use Rattle.script.specs.declared.Script.{Script}
use Rattle.script.specs.declared.Refused.{Refused}
use Rattle.script.specs.Reading.{Read, Answer, going, refused, answer_at}
use Rattle.script.specs.Script.{fitted, in_triples, in_counts, told, script_at, script_in, lent_in}
use Rattle.script.proofs.Accepting.{lent_of, Sized, read-sized, script-accepted}

front-fitted : {A : Type 0} (w k : ℕ) (z : A) (l : List A) → k ≡ length l → k ≤ w → take k (fitted w z l) ≡ l
front-fitted w k z l e h = take-take k w (l ++ replicate w z) h ∙ ap (λ (j : ℕ). take j (l ++ replicate w z)) e ∙ take-append_seam l (replicate w z)

-- of one text there is one script
pub script-one : {a b : Script} → ◌≡◌ {A = Result Script Refused} (Ok a) (Ok b) → a ≡ b
script-one q = cc

-- a script that is read was read to its end, and says what was read
pub script-read : (text : List ℕ) (at : ℕ) (s : Script) → script_at text at ≡ Ok s → (R : Read) × (answer_at text at ≡ going R) × (told (going R) ≡ Ok s)
unfolding script_at
script-read text at s e = go (answer_at text at) refl e
  where
    go : (a : Answer) → answer_at text at ≡ a → told a ≡ Ok s → (R : Read) × (answer_at text at ≡ going R) × (told (going R) ≡ Ok s)
    go (going R) p q = (R, p, q)
    go (refused d place) p q = absurd (unfold told in cc)

-- the script that says what was read
said_of : Read → Script
said_of R =
    record {
      n = length R.names;
      rules = record { alternatives = length R.triples / 3; triples = in_triples R.triples; clauses = length R.counts; counts = in_counts R.counts };
    }

said-is : (R : Read) (s : Script) → told (going R) ≡ Ok s → said_of R ≡ s
unfolding told said_of
said-is R s e = cc

-- nothing is cut off, since what was read has its place there
front-is : (R : Read) → Sized R → lent_in (said_of R) ≡ lent_of R
unfolding said_of
front-is R z =
    ap₂ (λ (t : List ℤ) (c : List ℕ). record { n = length R.names; triples = t; counts = c })
    (front-fitted (3 * most_alternatives) (3 * (length R.triples / 3)) (pos 0) R.triples (omega (arith, z.threes)) (omega (arith, z.few-numbers)))
    (front-fitted most_clauses (length R.counts) 0 R.counts refl z.few-clauses)

pub script-said : (text : List ℕ) (at : ℕ) (R : Read) → answer_at text at ≡ going R → (s : Script) × (script_at text at ≡ Ok s) × (lent_in s ≡ lent_of R)
unfolding script_at said_of told
script-said text at R p = (said_of R, ap told p, front-is R (read-sized text at R p))

-- What was read is what the struct says, and it is accepted.
pub script-problem : (text : List ℕ) (s : Script) → script_in text ≡ Ok s → problem_refusal (lent_in s) ≡ 0
script-problem text s e =
    let r = script-read text 0 s e in
    rw (← (said-is r.0 s r.2), front-is r.0 (read-sized text 0 r.0 r.1)) (script-accepted text 0 r.0 r.1)

-- the used front lies within the arrays
pub script-within : (text : List ℕ) (s : Script) → script_in text ≡ Ok s → (s.rules.alternatives ≤ most_alternatives) × (s.rules.clauses ≤ most_clauses)
unfolding said_of
script-within text s e =
    let r = script-read text 0 s e in
    let z = read-sized text 0 r.0 r.1 in
    rw (← (said-is r.0 s r.2)) (omega (arith, z.few-numbers), z.few-clauses)

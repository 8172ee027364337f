-- A refusal is told by its number, which is above 0 and fits a byte. Assumes nothing.
use mathlib.Core.Path.{◌≡◌, refl, sym, ap, ◌∙◌}
use mathlib.Core.List.{List, [], ◌∷◌}
use Prim.Native.Nat.{ℕ, ◌<◌}
use native.Mathlib.Omega.{arith}
use lib.ListN.{get_or}
use Rattle.meaning.specs.declared.Refusal.{Refusal}
use Rattle.meaning.specs.declared.Refusal.TheVariants.{Events, Clauses, Triples, Counts, Event, Bound, Allowance, Lent, Itself, NoTimetable, NoDay, Script, Room}
use Rattle.meaning.specs.Refusal.{number_of}

pub number-above : (e : Refusal) → 0 < number_of e
number-above Events = omega arith
number-above Clauses = omega arith
number-above Triples = omega arith
number-above Counts = omega arith
number-above Event = omega arith
number-above Bound = omega arith
number-above Allowance = omega arith
number-above Lent = omega arith
number-above Itself = omega arith
number-above NoTimetable = omega arith
number-above NoDay = omega arith
number-above Script = omega arith
number-above Room = omega arith

-- and fits a byte
pub number-below : (e : Refusal) → number_of e < 256
number-below Events = omega arith
number-below Clauses = omega arith
number-below Triples = omega arith
number-below Counts = omega arith
number-below Event = omega arith
number-below Bound = omega arith
number-below Allowance = omega arith
number-below Lent = omega arith
number-below Itself = omega arith
number-below NoTimetable = omega arith
number-below NoDay = omega arith
number-below Script = omega arith
number-below Room = omega arith

-- the refusals, each at the place of its number
numbered : List Refusal
numbered = Events ∷ Events ∷ Clauses ∷ Triples ∷ Counts ∷ Event ∷ Bound ∷ Allowance ∷ Lent ∷ Events ∷ Events ∷ Events ∷ Itself ∷ NoTimetable ∷ Events ∷ Events ∷ NoDay ∷ Events ∷ Events ∷ Events ∷ Script ∷ Room ∷ []

found : (e : Refusal) → get_or numbered (number_of e) Events ≡ e
unfolding numbered
found Events = refl
found Clauses = refl
found Triples = refl
found Counts = refl
found Event = refl
found Bound = refl
found Allowance = refl
found Lent = refl
found Itself = refl
found NoTimetable = refl
found NoDay = refl
found Script = refl
found Room = refl

pub number-one : (d e : Refusal) → number_of d ≡ number_of e → d ≡ e
number-one d e q = sym (found d) ∙ ap (λ (n : ℕ). get_or numbered n Events) q ∙ found e

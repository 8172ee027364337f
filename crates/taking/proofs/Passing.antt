-- The facts of a position of a clause, one fact after the other: they are the meaning's, and more facts are no sounder. Assumes nothing.
use mathlib.Core.Path.{◌≡◌, sym, ap, ap₂, ◌∙◌, subst}
use mathlib.Core.Bool.{false}
use mathlib.Core.List.{List, ◌∷◌}
use Prim.Native.Nat.{ℕ, zero, suc, ◌+◌, ◌-◌, ◌<◌, ◌≤◌}
use native.Mathlib.Nat.{not-suc-le-zero, le_of_suc-le-suc}
use native.Mathlib.Omega.{arith}
use lib.Dec.{T}
use Rattle.laws.proofs.Tests.{is_false}
use Rattle.meaning.specs.Limits.{opposite_from}
use Rattle.meaning.specs.Problem.{Alternative, Timetable, Satisfies}
use Rattle.meaning.specs.Decision.{sound}
use Rattle.meaning.specs.Search.{taking}
use Rattle.meaning.proofs.Deciding.{sound-decides}
use Rattle.problem.specs.declared.Problem.{Problem}
use Rattle.problem.specs.Arcs.{Net, at, arc, arcs_from}
use Rattle.problem.specs.Laid.{arcs}
use Rattle.taking.specs.Taking.{passed, taken}

-- ---- more facts are no sounder
-- a timetable of all the facts is one of the others
pub unsound-more : (a : Alternative) (fs : List Alternative) → sound fs ≡ false → sound (a ∷ fs) ≡ false
unsound-more a fs e = is_false (sound (a ∷ fs)) (λ h. let (t, k) = sound-decides.right (a ∷ fs) h in subst T e (sound-decides.whole fs t k.1))

satisfies-fewer : (t : Timetable) (g : Net) (j i : ℕ) (fs : List Alternative) → Satisfies t (passed g j i fs) → Satisfies t fs
unfolding passed
satisfies-fewer t g j zero fs h = h
satisfies-fewer t g j (suc i) fs h = satisfies-fewer t g j i fs h.1

-- an alternative that is unsound with the facts is so after opposites too: a timetable of the position satisfies it and the facts
pub unsound-first : (g : Net) (first last : ℕ) (fs : List Alternative) → sound (arc g last ∷ fs) ≡ false → sound (taken g first last fs) ≡ false
unsound-first g first last fs e =
    is_false (sound (taken g first last fs)) (λ h. let (t, k) = sound-decides.right (taken g first last fs) h in subst T e (sound-decides.whole (arc g last ∷ fs) t (k.0, satisfies-fewer t g first (last - first) fs k.1)))

-- ---- the opposites of the alternatives passed over
module _ (g : Net) where
  pub passed_none : (j : ℕ) (fs : List Alternative) → passed g j (j - j) fs ≡ fs
  unfolding passed
  passed_none j fs = ap (λ (i : ℕ). passed g j i fs) (let e : j - j ≡ 0 = omega arith in e)

  pub passed-more : (first j : ℕ) (fs : List Alternative) → first ≤ j → arc g (opposite_from + j) ∷ passed g first (j - first) fs ≡ passed g first (j + 1 - first) fs
  unfolding passed
  passed-more first j fs h =
      ap (λ (i : ℕ). arc g (opposite_from + i) ∷ passed g first (j - first) fs) (let e : j ≡ first + (j - first) = omega arith in e)
      ∙ ap (λ (i : ℕ). passed g first i fs) (let e : suc (j - first) ≡ j + 1 - first = omega arith in e)

  unsound-on : (j i d : ℕ) (fs : List Alternative) → sound (passed g j i fs) ≡ false → sound (passed g j (d + i) fs) ≡ false
  unfolding passed
  unsound-on j i zero fs e = ap (λ (k : ℕ). sound (passed g j k fs)) (let q : 0 + i ≡ i = omega arith in q) ∙ e
  unsound-on j i (suc d) fs e =
      ap (λ (k : ℕ). sound (passed g j k fs)) (let q : suc d + i ≡ suc (d + i) = omega arith in q)
      ∙ unsound-more (arc g (opposite_from + (j + (d + i)))) (passed g j (d + i) fs) (unsound-on j i d fs e)

  -- an opposite on the way that does not fit makes all of them unsound: they hold that opposite and all before it, and what is added after an unsound
  -- set leaves it unsound
  pub unsound-passed : (first j last : ℕ) (fs : List Alternative) → first ≤ j → j < last → sound (arc g (opposite_from + j) ∷ passed g first (j - first) fs) ≡ false → sound (passed g first (last - first) fs) ≡ false
  unsound-passed first j last fs h l e =
      ap (λ (k : ℕ). sound (passed g first k fs)) (let q : last - first ≡ last - (j + 1) + (j + 1 - first) = omega arith in q)
      ∙ unsound-on first (j + 1 - first) (last - (j + 1)) fs (ap sound (sym (passed-more first j fs h)) ∙ e)

  -- the opposites by the first of them
  pub passed-front : (j i : ℕ) (fs : List Alternative) → passed g (suc j) i (arc g (opposite_from + j) ∷ fs) ≡ passed g j (suc i) fs
  unfolding passed
  passed-front j zero fs = ap (λ (k : ℕ). arc g (opposite_from + k) ∷ fs) (let e : j ≡ j + 0 = omega arith in e)
  passed-front j (suc i) fs =
      ap₂ (λ (k : ℕ) (l : List Alternative). arc g (opposite_from + k) ∷ l) (let e : suc j + i ≡ j + suc i = omega arith in e) (passed-front j i fs)

-- ---- the facts of a position
-- as the meaning takes them: it goes through the clause from the front, and puts each opposite before those so far
module _ (p : Problem) where
  pub taking-passed : (j s i : ℕ) (fs : List Alternative) → j + s ≤ at p.starts p.m → i < s → taking i (arcs_from (arcs p) j s) fs ≡ arc (arcs p) (j + i) ∷ passed (arcs p) j i fs
  unfolding arcs_from passed
  taking-passed j zero i fs h l = absurd (not-suc-le-zero l)
  taking-passed j (suc s) zero fs h l = ap (λ (k : ℕ). arc (arcs p) k ∷ fs) (let e : j ≡ j + 0 = omega arith in e)
  taking-passed j (suc s) (suc i) fs h l =
      ap (λ (a : Alternative). taking i (arcs_from (arcs p) (suc j) s) (a ∷ fs)) (p.laid.opposites j (omega arith))
      ∙ taking-passed (suc j) s i (arc (arcs p) (opposite_from + j) ∷ fs) (omega arith) (le_of_suc-le-suc l)
      ∙ ap₂ (λ (k : ℕ) (l : List Alternative). arc (arcs p) k ∷ l) (let e : suc j + i ≡ j + suc i = omega arith in e) (passed-front (arcs p) j i fs)

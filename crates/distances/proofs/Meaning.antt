-- What the numbers' update means: it is the update of the distances, and so the day of the facts with the new one. Assumes nothing.
use mathlib.Core.Path.{◌≡◌, sym, ap, ap₂, ◌∙◌, subst}
use mathlib.Core.Bool.{true}
use mathlib.Core.Logic.{◌⊎◌, inl, inr, ⊎_elim}
use mathlib.Core.List.Memᴰ
use mathlib.Core.List.{List, ◌∷◌, Memᴰ}
use Prim.Native.Nat.{ℕ, ◌+◌, ◌*◌, ◌<◌, ◌≤◌}
use native.Mathlib.Omega.{arith}
use lib.Dec.{T, leb}
use lib.IntN.{nat_abs, sub_ℕ}
use Rattle.meaning.specs.Problem.{Alternative}
use Rattle.meaning.specs.Decision.{sound}
use Rattle.meaning.specs.Limits.{most_events}
use Rattle.problem.specs.Arcs.{bias, at}
use Rattle.distances.specs.Distances.{IsDistance, Table, DayOf}
use Rattle.distances.specs.Adding.{closes, fits, added}
use Rattle.distances.specs.Numbers.{turn, distance, table_at, Reach, InRange, Ranged, Stands, Holds}
use Rattle.distances.specs.Rows.{new_number, Extended}
use Rattle.laws.proofs.Integers.{up, down, sub-law, abs_is, one_side}
use Rattle.distances.proofs.Updating.{added-day}
use Rattle.distances.proofs.Timetables.{fits-sound}
use Rattle.distances.proofs.Numbers.{fits-number}
use Rattle.distances.proofs.Range.{in_reach}
use Rattle.distances.proofs.Lowering.{Right, lowering}

-- a table with the same entries is a day of the same facts
pub same-day : (n : ℕ) (fs : List Alternative) (d e : Table) → ((u v : ℕ) → u < n → v < n → e u v ≡ d u v) → DayOf n fs d → DayOf n fs e
same-day n fs d e q day = record { within = day.within; each = λ u v l m. subst (IsDistance fs u v) (sym (q u v l m)) (day.each u v l m) }

-- bounds of alternatives and opposites, with one more
pub bounded-more : (a : Alternative) → nat_abs a.c ≤ bias → (fs : List Alternative) → ((c : Alternative) → Memᴰ c fs → nat_abs c.c ≤ bias) → (c : Alternative) → Memᴰ c (a ∷ fs) → nat_abs c.c ≤ bias
bounded-more a small fs k c j = ⊎_elim (λ q. subst (λ (c : Alternative). nat_abs c.c ≤ bias) (sym q) small) (λ q. k c q) (Memᴰ.cases_cons j)

pub number-bounded : (x y b : ℕ) (a : Alternative) → Stands x y b a → b < 2 * bias → nat_abs a.c ≤ bias
number-bounded x y b a h hb = rw h.bound (near (one_side (sub_ℕ b bias)))
  where
    near : (up (sub_ℕ b bias) ≡ 0) ⊎ (down (sub_ℕ b bias) ≡ 0) → nat_abs (sub_ℕ b bias) ≤ bias
    near (inl j) = omega (arith, abs_is (sub_ℕ b bias), sub-law b bias)
    near (inr j) = omega (arith, abs_is (sub_ℕ b bias), sub-law b bias)

module _ (s : List ℕ) (base w n x y b : ℕ) (a : Alternative) (h : Stands x y b a) (l : x < n) (m : y < n) where
  inside : (a.x < n) × (a.y < n)
  inside = (subst (λ (i : ℕ). i < n) (sym h.first) l, subst (λ (i : ℕ). i < n) (sym h.second) m)

  -- the one entry that is looked at says whether the fact fits
  pub fits-is : leb turn (at s (base + (x * w + y)) + b) ≡ fits a (table_at s base w)
  fits-is =
      fits-number (at s (base + (x * w + y))) b
      ∙ ap₂ closes (ap₂ (λ (i j : ℕ). table_at s base w i j) (sym h.first) (sym h.second)) (sym h.bound)

  -- and so decides
  pub fits-means : (fs : List Alternative) → DayOf n fs (table_at s base w) → leb turn (at s (base + (x * w + y)) + b) ≡ sound (a ∷ fs)
  fits-means fs day = fits-is ∙ fits-sound n fs (table_at s base w) day a inside

  module _ (hb : b < 2 * bias) (g : Ranged s base w n) where
    -- the new numbers stand for the new distances
    pub right : (u v : ℕ) → u < n → v < n → Right (new_number s base w x y b u v) (added a (table_at s base w) u v)
    unfolding added
    right u v i j =
        rw (h.first, h.second, h.bound)
        (lowering (at s (base + (u * w + v))) (at s (base + (u * w + y))) b (at s (base + (x * w + v))) (g.each u v i j) (g.each u y i m) (g.each x v l j) hb)

    -- the extended table is the day of the facts with the new one, and its numbers are in range
    pub extended-day : (z : List ℕ) (to : ℕ) → Extended s z base to w n x y b → (fs : List Alternative) → DayOf n fs (table_at s base w) → sound (a ∷ fs) ≡ true → ((u v : ℕ) → u < n → v < n → Reach (added a (table_at s base w) u v)) → DayOf n (a ∷ fs) (table_at z to w) × Ranged z to w n
    extended-day z to e fs day ok r = (
      same-day n (a ∷ fs) (added a (table_at s base w)) (table_at z to w) (λ u v i j. ap distance (e.each u v i j) ∙ ((right u v i j).is (r u v i j)).0)
          (added-day n fs (table_at s base w) day a inside (subst T (sym (fits-sound n fs (table_at s base w) day a inside ∙ ok)) tt)),
      record { each = λ u v i j. subst InRange (sym (e.each u v i j)) ((right u v i j).is (r u v i j)).1 },
    )

  -- where the facts' bounds are those of alternatives and opposites, the new distances stay in range by themselves
  pub added-reach : b < 2 * bias → (fs : List Alternative) → Holds s base w n fs → sound (a ∷ fs) ≡ true → n ≤ most_events → (u v : ℕ) → u < n → v < n → Reach (added a (table_at s base w) u v)
  added-reach hb fs k ok few =
      in_reach n (a ∷ fs) (added a (table_at s base w)) (added-day n fs (table_at s base w) k.day a inside (subst T (sym (fits-sound n fs (table_at s base w) k.day a inside ∙ ok)) tt)) few
      (bounded-more a (number-bounded x y b a h hb) fs k.bounded)

  -- and the extended table is a standing day again
  pub extended-holds : b < 2 * bias → (z : List ℕ) (to : ℕ) → Extended s z base to w n x y b → (fs : List Alternative) → Holds s base w n fs → sound (a ∷ fs) ≡ true → n ≤ most_events → Holds z to w n (a ∷ fs)
  extended-holds hb z to e fs k ok few =
      let (day, ranged) = extended-day hb k.ranged z to e fs k.day ok (added-reach hb fs k ok few) in
      record { day = day; ranged = ranged; bounded = bounded-more a (number-bounded x y b a h hb) fs k.bounded }

-- The latest timetable in minutes before closing, read off the numbers of a day. Assumes nothing.
use mathlib.Core.Path.{◌≡◌, refl, sym, ap, ◌∙◌}
use mathlib.Core.Logic.{◌⊎◌, inl, inr, ⊎_elim}
use mathlib.Core.List.{List, [], ◌∷◌, map}
use Prim.Native.Nat.{ℕ, zero, suc, ◌+◌, ◌*◌, ◌-◌, ◌<◌, ◌≤◌, max, zero-le}
use native.Mathlib.Numerals.{add-one}
use native.Mathlib.Omega.{arith}
use lib.IntN.{pos, nat_abs, sub_ℕ}
use lib.Signed.{◌≤ℤ◌}
use lib.ListN.{length, take, length-map, get_or-map}
use lib.Seq.{length-take-le, get_or-take}
use Rattle.laws.proofs.Order.{lt-or-ge}
use Rattle.meaning.specs.Problem.{Alternative}
use Rattle.meaning.specs.Decision.{least, time_of, latest_of}
use Rattle.meaning.proofs.Settling.{In}
use Rattle.meaning.proofs.Order.{member-each}
use Rattle.problem.specs.Arcs.{at}
use Rattle.distances.specs.Distances.{DayOf}
use Rattle.distances.specs.Adding.{lesser, nearer, soonest, latest_by}
use Rattle.distances.specs.Numbers.{no_way, middle, distance, table_at, minutes_of}
use Rattle.laws.proofs.Integers.{sub-law, neg-up, neg-down, le-to, same_of}
use Rattle.distances.proofs.Distances.{lesser-is}
use Rattle.distances.proofs.Numbers.{distance-far, distance_none}
use Rattle.distances.proofs.Timetables.{latest-same}

-- one row more
pub minutes-more : (s : List ℕ) (base w v u m r : ℕ) → m ≡ minutes_of s base w v u → r ≡ max m (middle - at s (base + (u * w + v))) → r ≡ minutes_of s base w v (u + 1)
unfolding minutes_of
minutes-more s base w v u m r p e = rw (add-one u) (e ∙ ap (λ (k : ℕ). max k (middle - at s (base + (u * w + v)))) p)

pub minutes-small : (s : List ℕ) (base w v k : ℕ) → minutes_of s base w v k ≤ middle
unfolding minutes_of
minutes-small s base w v zero = zero-le
minutes-small s base w v (suc k) = omega (arith, minutes-small s base w v k)

-- ---- as times
nearer-time : (e m : ℕ) → nearer (distance e) (time_of m) ≡ time_of (max m (middle - e))
nearer-time e m = ⊎_elim reached not-reached (lt-or-ge e no_way)
  where
    not-reached : no_way ≤ e → nearer (distance e) (time_of m) ≡ time_of (max m (middle - e))
    not-reached h = rw (distance_none e h) (unfold nearer in ap time_of (let q : m ≡ max m (middle - e) = omega arith in q))

    reached : e < no_way → nearer (distance e) (time_of m) ≡ time_of (max m (middle - e))
    reached h = rw (distance-far e h) (unfold nearer in go (lesser-is (sub_ℕ e middle) (time_of m)))
      where
        go : ((sub_ℕ e middle ≤ℤ time_of m) × (lesser (sub_ℕ e middle) (time_of m) ≡ sub_ℕ e middle)) ⊎ ((time_of m ≤ℤ sub_ℕ e middle) × (lesser (sub_ℕ e middle) (time_of m) ≡ time_of m)) → lesser (sub_ℕ e middle) (time_of m) ≡ time_of (max m (middle - e))
        go (inl (k, q)) =
            q
            ∙ same_of (sub_ℕ e middle) (time_of (max m (middle - e)))
            (omega (arith, le-to (sub_ℕ e middle) (time_of m) k, sub-law e middle, neg-up (pos m), neg-down (pos m), neg-up (pos (max m (middle - e))), neg-down (pos (max m (middle - e)))))
        go (inr (k, q)) =
            q
            ∙ same_of (time_of m) (time_of (max m (middle - e)))
            (omega (arith, le-to (time_of m) (sub_ℕ e middle) k, sub-law e middle, neg-up (pos m), neg-down (pos m), neg-up (pos (max m (middle - e))), neg-down (pos (max m (middle - e)))))

minutes-are : (s : List ℕ) (base w v k : ℕ) → soonest k (λ u. table_at s base w u v) ≡ time_of (minutes_of s base w v k)
unfolding soonest minutes_of
minutes-are s base w v zero = refl
minutes-are s base w v (suc k) =
    ap (nearer (table_at s base w k v)) (minutes-are s base w v k)
    ∙ nearer-time (at s (base + (k * w + v))) (minutes_of s base w v k)

-- ---- the house's latest timetable
back-again : (l : List ℕ) → map nat_abs (map time_of l) ≡ l
back-again [] = refl
back-again (zero ∷ l) = ap {B = List ℕ} (λ r. 0 ∷ r) (back-again l)
back-again (suc s ∷ l) = ap {B = List ℕ} (λ r. suc s ∷ r) (back-again l)

same-minutes : (k l : List ℕ) → map time_of k ≡ map time_of l → k ≡ l
same-minutes k l e = sym (back-again k) ∙ ap (map nat_abs) e ∙ back-again l

pub minutes-least : (s : List ℕ) (base w n : ℕ) (fs : List Alternative) → DayOf n fs (table_at s base w) → (t : List ℕ) → n ≤ length t → ((v : ℕ) → v < n → at t v ≡ minutes_of s base w v n) → take n t ≡ least n fs
unfolding latest_of latest_by
minutes-least s base w n fs day t l h =
    same-minutes (take n t) (least n fs)
    (latest-same n fs (table_at s base w) day (member-each (In n) fs day.within) (map time_of (take n t)) (length-map (take n t) time_of ∙ length-take-le n t l)
    (λ v m. get_or-map time_of (take n t) v 0 ∙ ap time_of (get_or-take n t v 0 m ∙ h v m) ∙ sym (minutes-are s base w v n)))

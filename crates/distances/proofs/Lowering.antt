-- What lowering a number means: the number of the shorter distance, wherever that lies in range. Assumes nothing.
use mathlib.Core.Path.{◌≡◌, refl, ap, ◌∙◌, subst}
use mathlib.Core.Logic.{◌⊎◌, inl, inr, ⊎_elim}
use Prim.Native.Nat.{ℕ, ◌+◌, ◌*◌, ◌-◌, ◌<◌, ◌≤◌, min}
use native.Mathlib.Omega.{arith}
use lib.IntN.{ℤ, nat_abs, sub_ℕ, ◌+ℤ◌}
use lib.Signed.{◌≤ℤ◌}
use Rattle.problem.specs.Arcs.{bias, farthest}
use Rattle.distances.specs.Distances.{Distance, none, far}
use Rattle.distances.specs.Adding.{and_then, lesser, shorter, over}
use Rattle.distances.specs.Numbers.{no_way, middle, turn, blocked, distance, Reach, nowhere, within, InRange, shift, lowered}
use Rattle.laws.proofs.Integers.{up, down, sub-law, add-law, le-to, same_of, abs_is, one_side}
use Rattle.distances.proofs.Distances.{lesser-is}
use Rattle.distances.proofs.Numbers.{distance-far, distance_none, shift-reached, shift-blocked, lowered_by, lowered-not}

-- a number in range stands for a distance in range, and no other does
pub reach_of : (e : ℕ) → InRange e → Reach (distance e)
reach_of e (inl h) = rw (distance_none e (omega arith)) nowhere
reach_of e (inr h) = rw (distance-far e (omega arith)) (within (near (one_side (sub_ℕ e middle))))
  where
    near : (up (sub_ℕ e middle) ≡ 0) ⊎ (down (sub_ℕ e middle) ≡ 0) → nat_abs (sub_ℕ e middle) ≤ farthest
    near (inl k) = omega (arith, abs_is (sub_ℕ e middle), sub-law e middle)
    near (inr k) = omega (arith, abs_is (sub_ℕ e middle), sub-law e middle)

shorter-none : (d : Distance) → shorter d none ≡ d
unfolding shorter
shorter-none none = refl
shorter-none (far a) = refl

over_none : (d : Distance) (c : ℤ) → over d c none ≡ none
unfolding and_then
over_none none c = refl
over_none (far a) c = refl

none_over : (c : ℤ) (d : Distance) → over none c d ≡ none
unfolding and_then
none_over c d = refl

-- the number r is right for the distance d: it stands for it where that is in range, and only then it is in range
pub record Right (r : ℕ) (d : Distance) : Type 0 where
  pub is : Reach d → (distance r ≡ d) × InRange r
  pub only : InRange r → Reach d

as_it_was : (o : ℕ) → InRange o → Right o (distance o)
as_it_was o h = record { is = λ k. (refl, h); only = λ k. reach_of o k }

-- the sum of the way over the fact
sum : ℕ → ℕ → ℕ → ℤ
sum p b e = sub_ℕ p middle +ℤ sub_ℕ b bias +ℤ sub_ℕ e middle

sum_is : (p b e : ℕ) → up (sum p b e) + turn + middle ≡ p + b + e + down (sum p b e)
unfolding sum
sum_is p b e =
    omega (arith, add-law (sub_ℕ p middle +ℤ sub_ℕ b bias) (sub_ℕ e middle), add-law (sub_ℕ p middle) (sub_ℕ b bias), sub-law p middle, sub-law b bias, sub-law e middle)

-- a number that is the sum, in range
sum-right : (p b e m : ℕ) → 1 ≤ m → m < 2 * middle → m + turn ≡ p + b + e → (distance m ≡ far (sum p b e)) × InRange m
sum-right p b e m l k q =
    (distance-far m (omega arith) ∙ ap far (same_of (sub_ℕ m middle) (sum p b e) (omega (arith, sub-law m middle, sum_is p b e))), inr (l, k))

near-sum : (p b e : ℕ) → nat_abs (sum p b e) ≤ farthest → (turn + 1 ≤ p + b + e) × (p + b + e < turn + 2 * middle)
near-sum p b e h = go (one_side (sum p b e))
  where
    go : (up (sum p b e) ≡ 0) ⊎ (down (sum p b e) ≡ 0) → (turn + 1 ≤ p + b + e) × (p + b + e < turn + 2 * middle)
    go (inl k) = omega (arith, abs_is (sum p b e), sum_is p b e)
    go (inr k) = omega (arith, abs_is (sum p b e), sum_is p b e)

sum_near : (p b e : ℕ) → turn + 1 ≤ p + b + e → p + b + e < turn + 2 * middle → nat_abs (sum p b e) ≤ farthest
sum_near p b e h k = go (one_side (sum p b e))
  where
    go : (up (sum p b e) ≡ 0) ⊎ (down (sum p b e) ≡ 0) → nat_abs (sum p b e) ≤ farthest
    go (inl j) = omega (arith, abs_is (sum p b e), sum_is p b e)
    go (inr j) = omega (arith, abs_is (sum p b e), sum_is p b e)

far_within : {z : ℤ} → Reach (far z) → nat_abs z ≤ farthest
far_within (within h) = h

module _ (p b e : ℕ) (hp : (1 ≤ p) × (p < 2 * middle)) (he : (1 ≤ e) × (e < 2 * middle)) (hb : b < 2 * bias) where
  -- a first way where there was none
  first_way : Right (min no_way (e + (p + b) - turn)) (far (sum p b e))
  first_way =
      record {
        is = λ k. let (l, m) = near-sum p b e (far_within k) in sum-right p b e (min no_way (e + (p + b) - turn)) (omega arith) (omega arith) (omega arith);
        only = λ k. within (⊎_elim (λ q. absurd (clash q)) (λ q. sum_near p b e (omega arith) (omega arith)) k);
      }
    where
      clash : min no_way (e + (p + b) - turn) ≡ no_way → ⊥
      clash q = omega arith

  -- the shorter of two ways
  second_way : (o : ℕ) → (1 ≤ o) × (o < 2 * middle) → Right (min o (e + (p + b) - turn)) (far (lesser (sub_ℕ o middle) (sum p b e)))
  second_way o ho = go (lesser-is (sub_ℕ o middle) (sum p b e))
    where
      go : ((sub_ℕ o middle ≤ℤ sum p b e) × (lesser (sub_ℕ o middle) (sum p b e) ≡ sub_ℕ o middle)) ⊎ ((sum p b e ≤ℤ sub_ℕ o middle) × (lesser (sub_ℕ o middle) (sum p b e) ≡ sum p b e)) → Right (min o (e + (p + b) - turn)) (far (lesser (sub_ℕ o middle) (sum p b e)))
      go (inl (h, q)) =
          let f : min o (e + (p + b) - turn) ≡ o = omega (arith, le-to (sub_ℕ o middle) (sum p b e) h, sub-law o middle, sum_is p b e) in
          rw (q, f) (subst (Right o) (distance-far o (omega arith)) (as_it_was o (inr ho)))
      go (inr (h, q)) =
          let f : p + b + e ≤ o + turn = omega (arith, le-to (sum p b e) (sub_ℕ o middle) h, sub-law o middle, sum_is p b e) in
          rw q
          (record {
            is = λ k. let (l, m) = near-sum p b e (far_within k) in sum-right p b e (min o (e + (p + b) - turn)) (omega arith) (omega arith) (omega arith);
            only = λ k. within (⊎_elim (λ j. absurd (clash j)) (λ j. sum_near p b e (omega arith) (omega arith)) k);
          })
        where
          clash : min o (e + (p + b) - turn) ≡ no_way → ⊥
          clash j = omega arith

-- Lowering is right, in four cases: the way goes on nowhere, or comes from nowhere (`blocked` adds so much that the least is the old number); there was no old way; there was one, and
-- the lesser of the two sums is the lesser number. A sum too far below stops at 0, which is out of range.
pub lowering : (o p b e : ℕ) → InRange o → InRange p → InRange e → b < 2 * bias → Right (lowered o (shift p b) e) (shorter (distance o) (over (distance p) (sub_ℕ b bias) (distance e)))
lowering o p b e ho hp (inl he) hb =
    rw (lowered-not o (shift p b) e (omega arith), distance_none e (omega arith), over_none (distance p) (sub_ℕ b bias), shorter-none (distance o)) (as_it_was o ho)
lowering o p b e ho (inl hp) (inr he) hb =
    let q : min o (e + blocked - turn) ≡ o = ⊎_elim (λ (h : o ≡ no_way). omega arith) (λ (h : (1 ≤ o) × (o < 2 * middle)). omega arith) ho in
    rw (lowered_by o (shift p b) e (omega arith), shift-blocked p b (omega arith), q, distance_none p (omega arith), none_over (sub_ℕ b bias) (distance e), shorter-none (distance o)) (as_it_was o ho)
lowering o p b e (inl ho) (inr hp) (inr he) hb =
    rw (lowered_by o (shift p b) e (omega arith), shift-reached p b (omega arith), distance_none o (omega arith), distance-far p (omega arith), distance-far e (omega arith), ho)
    (unfold shorter and_then sum in first_way p b e hp he hb)
lowering o p b e (inr ho) (inr hp) (inr he) hb =
    rw (lowered_by o (shift p b) e (omega arith), shift-reached p b (omega arith), distance-far o (omega arith), distance-far p (omega arith), distance-far e (omega arith))
    (unfold shorter and_then sum in second_way p b e hp he hb o ho)

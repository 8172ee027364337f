-- What the numbers of a table stand for: whether a fact fits, and a number lowered by the way over it. Assumes nothing.
use mathlib.Core.Path.{◌≡◌, ap}
use mathlib.Core.Logic.{◌⊎◌, inl, inr}
use Prim.Native.Nat.{ℕ, ◌+◌, ◌-◌, ◌≤◌, min}
use native.Mathlib.Omega.{arith}
use lib.Dec.{leb, leb→le, le→leb}
use lib.IntN.{ℤ, pos, nat_abs, sub_ℕ, ◌+ℤ◌}
use lib.Signed.{le_z, ◌≤ℤ◌}
use Rattle.laws.proofs.Tests.{same_test}
use Rattle.laws.proofs.Integers.{up, down, sub-law, add-law, le-to, le_of, same_of, abs_is, one_side}
use Rattle.problem.specs.Arcs.{bias, farthest}
use Rattle.distances.specs.Distances.{far}
use Rattle.distances.specs.Adding.{no_longer, and_then, lesser, shorter, over, closes}
use Rattle.distances.proofs.Distances.{lesser-is}
use Rattle.taking.specs.Tables.{level, turn, Near}

-- a distance within reach has a number that is near
pub near_of : (e : ℕ) → nat_abs (sub_ℕ e level) ≤ farthest → Near e
near_of e h = go (one_side (sub_ℕ e level))
  where
    go : (up (sub_ℕ e level) ≡ 0) ⊎ (down (sub_ℕ e level) ≡ 0) → Near e
    go (inl q) = (omega (arith, abs_is (sub_ℕ e level), sub-law e level), omega (arith, abs_is (sub_ℕ e level), sub-law e level))
    go (inr q) = (omega (arith, abs_is (sub_ℕ e level), sub-law e level), omega (arith, abs_is (sub_ℕ e level), sub-law e level))

-- whether a fact fits, in numbers
pub fits-number : (e b : ℕ) → leb turn (e + b) ≡ closes (far (sub_ℕ e level)) (sub_ℕ b bias)
fits-number e b = unfold no_longer and_then in
    same_test (leb turn (e + b)) (le_z (pos 0) (sub_ℕ e level +ℤ sub_ℕ b bias))
    (λ k. (le_of (pos 0) (sub_ℕ e level +ℤ sub_ℕ b bias) (omega (arith, leb→le turn (e + b) k, add-law (sub_ℕ e level) (sub_ℕ b bias), sub-law e level, sub-law b bias))).le)
    (λ k. le→leb turn (e + b) (omega (arith, le-to (pos 0) (sub_ℕ e level +ℤ sub_ℕ b bias) (record { le = k }), add-law (sub_ℕ e level) (sub_ℕ b bias), sub-law e level, sub-law b bias)))

-- the number that is lowered stands for the shorter of the distance and the way over the fact: the lesser of two sums has the lesser number, and none falls below 0
pub lowering : (o p e b : ℕ) → Near p → Near e → far (sub_ℕ (min o (e + (p + b) - turn)) level) ≡ shorter (far (sub_ℕ o level)) (over (far (sub_ℕ p level)) (sub_ℕ b bias) (far (sub_ℕ e level)))
lowering o p e b hp he = unfold shorter and_then in ap far (go (lesser-is old sum))
  where
    old : ℤ
    old = sub_ℕ o level

    sum : ℤ
    sum = sub_ℕ p level +ℤ sub_ℕ b bias +ℤ sub_ℕ e level

    number : ℕ
    number = e + (p + b) - turn

    sum_is : up sum + turn + level ≡ p + b + e + down sum
    sum_is =
        omega (arith, add-law (sub_ℕ p level +ℤ sub_ℕ b bias) (sub_ℕ e level), add-law (sub_ℕ p level) (sub_ℕ b bias), sub-law p level, sub-law b bias, sub-law e level)

    go : ((old ≤ℤ sum) × (lesser old sum ≡ old)) ⊎ ((sum ≤ℤ old) × (lesser old sum ≡ sum)) → sub_ℕ (min o number) level ≡ lesser old sum
    go (inl (h, q)) =
        rw q (ap (λ (i : ℕ). sub_ℕ i level) (let f : min o number ≡ o = omega (arith, le-to old sum h, sub-law o level, sum_is) in f))
    go (inr (h, q)) =
        rw q
        (same_of (sub_ℕ (min o number) level) sum
        (omega (arith, le-to sum old h, sub-law o level, sum_is, sub-law (min o number) level)))

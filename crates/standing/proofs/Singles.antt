-- One number: what its tests say of the distance that it stands for, the number of an entry, and the entry of a number. Assumes nothing.
use mathlib.Core.Path.{◌≡◌, refl, sym, ap, ◌∙◌, subst}
use mathlib.Core.Bool.{true, false}
use mathlib.Core.Logic.{⊎_elim}
use Prim.Native.Nat.{ℕ, suc, ◌+◌, ◌*◌, ◌-◌, ◌<◌, ◌≤◌}
use native.Mathlib.Omega.{arith}
use lib.Dec.{T, leb, ltb, eqb, leb→le, le→leb, ltb→lt, lt→ltb, eqb→eq}
use lib.IntN.{ℤ, pos, negsuc, nat_abs, sub_ℕ, ◌+ℤ◌}
use lib.Signed.{le_z}
use borrow.Author.Tests.{le-leb, lt-leb, le-ltb, lt-ltb, eq-eqb, ne_eqb}
use Rattle.laws.proofs.Order.{lt-or-ge}
use Rattle.laws.proofs.Tests.{same_test, is_false}
use Rattle.laws.proofs.Differences.{Minus, below, above, minus}
use Rattle.laws.proofs.Integers.{sub-law, add-law, le-to, le_of}
use Rattle.problem.specs.Arcs.{farthest}
use Rattle.distances.specs.Distances.{Distance, none, far}
use Rattle.distances.specs.Adding.{no_longer, and_then}
use Rattle.distances.specs.Numbers.{middle, no_way, distance}
use Rattle.distances.proofs.Numbers.{distance-far, distance_none}
use Rattle.standing.specs.Entries.{no_entry, said, entry_of}
use Rattle.standing.specs.Standing.{in_range, is_zero, is_none}
use Rattle.standing.specs.Numbers.{number_of, placed_at}

-- ---- in range
near-middle : (e : ℕ) → 1 ≤ e → e < 2 * middle → nat_abs (sub_ℕ e middle) ≤ farthest
near-middle e h k = go (minus e middle)
  where
    go : {z : ℤ} → Minus e middle z → nat_abs z ≤ farthest
    go (below l) = omega arith
    go (above l) = omega arith

pub middle-near : (e : ℕ) → nat_abs (sub_ℕ e middle) ≤ farthest → (1 ≤ e) × (e < 2 * middle)
middle-near e = go (minus e middle)
  where
    go : {z : ℤ} → Minus e middle z → nat_abs z ≤ farthest → (1 ≤ e) × (e < 2 * middle)
    go (below l) h = omega arith
    go (above l) h = omega arith

pub range_none : (e : ℕ) → no_way ≤ e → true ≡ in_range (distance e)
unfolding in_range
range_none e h = rw (distance_none e h) refl

pub range-low : (e : ℕ) → e < no_way → e < 1 → false ≡ in_range (distance e)
unfolding in_range
range-low e h k =
    rw (distance-far e h)
    (sym (is_false (leb (nat_abs (sub_ℕ e middle)) farthest) (λ t. clash (middle-near e (leb→le (nat_abs (sub_ℕ e middle)) farthest t)).0)))
  where
    clash : 1 ≤ e → ⊥
    clash l = omega arith

pub range-is : (e : ℕ) → e < no_way → 1 ≤ e → ltb e (2 * middle) ≡ in_range (distance e)
unfolding in_range
range-is e h k =
    rw (distance-far e h)
    (same_test (ltb e (2 * middle)) (leb (nat_abs (sub_ℕ e middle)) farthest)
    (λ t. le→leb (nat_abs (sub_ℕ e middle)) farthest (near-middle e k (ltb→lt e (2 * middle) t)))
    (λ t. lt→ltb e (2 * middle) (middle-near e (leb→le (nat_abs (sub_ℕ e middle)) farthest t)).1))

-- ---- in its place
none_is : (e : ℕ) → leb no_way e ≡ is_none (distance e)
unfolding is_none
none_is e =
    ⊎_elim (λ (h : e < no_way). rw (distance-far e h, lt-leb no_way e h) refl) (λ (h : no_way ≤ e). rw (distance_none e h, le-leb no_way e h) refl) (lt-or-ge e no_way)

zero_is : (e : ℕ) → eqb e middle ≡ is_zero (distance e)
unfolding is_zero
zero_is e =
    ⊎_elim (λ (h : e < no_way). rw (distance-far e h) (reached (minus e middle))) (λ (h : no_way ≤ e). rw (distance_none e h) (ne_eqb e middle (λ q. clash h q))) (lt-or-ge e no_way)
  where
    clash : no_way ≤ e → e ≡ middle → ⊥
    clash h q = omega arith

    reached : {z : ℤ} → Minus e middle z → eqb e middle ≡ eqb (nat_abs z) 0
    reached (below l) = ne_eqb e middle (λ q. under q) ∙ sym (ne_eqb (suc (middle - suc e)) 0 (λ q. omega arith))
      where
        under : e ≡ middle → ⊥
        under q = omega arith
    reached (above l) =
        same_test (eqb e middle) (eqb (e - middle) 0)
        (λ t. let q : e ≡ middle = eqb→eq e middle t in let p : e - middle ≡ 0 = omega arith in subst T (sym (eq-eqb (e - middle) 0 p)) tt)
        (λ t. let q : e - middle ≡ 0 = eqb→eq (e - middle) 0 t in let p : e ≡ middle = omega arith in subst T (sym (eq-eqb e middle p)) tt)

pub placed_row : (n u v e : ℕ) → n ≤ u → leb no_way e ≡ placed_at n u v (distance e)
unfolding placed_at
placed_row n u v e h = rw (le-ltb u n h) (none_is e)

pub placed-column : (n u v e : ℕ) → u < n → n ≤ v → leb no_way e ≡ placed_at n u v (distance e)
unfolding placed_at
placed-column n u v e h k = rw (lt-ltb u n h, le-ltb v n k) (none_is e)

pub placed-own : (n u v e : ℕ) → u < n → v < n → u ≡ v → eqb e middle ≡ placed_at n u v (distance e)
unfolding placed_at
placed-own n u v e h k q = rw (lt-ltb u n h, lt-ltb v n k, eq-eqb u v q) (zero_is e)

pub placed-other : (n u v e : ℕ) → u < n → v < n → (u ≡ v → ⊥) → true ≡ placed_at n u v (distance e)
unfolding placed_at
placed-other n u v e h k q = rw (lt-ltb u n h, lt-ltb v n k, ne_eqb u v q) refl

-- ---- no detour
kept-none : (d e : Distance) → no_longer d (and_then none e) ≡ true
unfolding no_longer and_then
kept-none d e = refl

kept-after : (d e : Distance) → no_longer d (and_then e none) ≡ true
unfolding no_longer and_then
kept-after d none = refl
kept-after d (far a) = refl

pub kept-first : (e p q : ℕ) → no_way ≤ p → true ≡ no_longer (distance e) (and_then (distance p) (distance q))
kept-first e p q h = rw (distance_none p h) (sym (kept-none (distance e) (distance q)))

pub kept_second : (e p q : ℕ) → no_way ≤ q → true ≡ no_longer (distance e) (and_then (distance p) (distance q))
kept_second e p q h = rw (distance_none q h) (sym (kept-after (distance e) (distance p)))

pub kept-longest : (e p q : ℕ) → p < no_way → q < no_way → no_way ≤ e → false ≡ no_longer (distance e) (and_then (distance p) (distance q))
unfolding no_longer and_then
kept-longest e p q h k l = rw (distance-far p h, distance-far q k, distance_none e l) refl

pub kept-is : (e p q : ℕ) → p < no_way → q < no_way → e < no_way → leb (e + middle) (p + q) ≡ no_longer (distance e) (and_then (distance p) (distance q))
unfolding no_longer and_then
kept-is e p q h k l =
    rw (distance-far p h, distance-far q k, distance-far e l)
    (same_test (leb (e + middle) (p + q)) (le_z (sub_ℕ e middle) (sub_ℕ p middle +ℤ sub_ℕ q middle))
    (λ t. (le_of (sub_ℕ e middle) (sub_ℕ p middle +ℤ sub_ℕ q middle) (omega (arith, leb→le (e + middle) (p + q) t, add-law (sub_ℕ p middle) (sub_ℕ q middle), sub-law e middle, sub-law p middle, sub-law q middle))).le)
    (λ t. le→leb (e + middle) (p + q) (omega (arith, le-to (sub_ℕ e middle) (sub_ℕ p middle +ℤ sub_ℕ q middle) (record { le = t }), add-law (sub_ℕ p middle) (sub_ℕ q middle), sub-law e middle, sub-law p middle, sub-law q middle))))

-- ---- the number of an entry
said-far : (z : ℤ) → (z ≡ no_entry → ⊥) → said z ≡ far z
unfolding said
said-far (pos k) h = rw (ne_eqb k 2147483647 (λ q. h (ap pos q))) refl
said-far (negsuc k) h = refl

pub number-none : (z : ℤ) → z ≡ no_entry → no_way ≡ number_of (said z)
unfolding number_of said
number-none z e = rw e refl

-- out of range it is 0
pub number-out : (z : ℤ) → (z ≡ no_entry → ⊥) → farthest < nat_abs z → 0 ≡ number_of (said z)
unfolding number_of
number-out z h k = rw (said-far z h, lt-leb (nat_abs z) farthest k) refl

-- within the range it is lifted
pub far-number : (z : ℤ) → nat_abs z ≤ farthest → number_of (far z) ≡ nat_abs (z +ℤ pos middle)
unfolding number_of
far-number z h = rw (le-leb (nat_abs z) farthest h) refl

pub number_is : (z : ℤ) → nat_abs z ≤ farthest → nat_abs (z +ℤ pos middle) ≡ number_of (said z)
number_is z l = rw (said-far z (λ e. let q : nat_abs z ≡ 2147483647 = ap nat_abs e in absurd (omega arith))) (sym (far-number z l))

-- ---- the entry of a number
pub entry-none : (e : ℕ) → no_way ≤ e → no_entry ≡ entry_of (distance e)
unfolding entry_of
entry-none e h = rw (distance_none e h) refl

pub entry-is : (e : ℕ) → e < no_way → sub_ℕ e middle ≡ entry_of (distance e)
unfolding entry_of
entry-is e h = rw (distance-far e h) refl

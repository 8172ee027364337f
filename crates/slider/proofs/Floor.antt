-- The floor of a fraction: equal fractions have one floor, and a negative fraction's by its whole part and its rest. Assumes nothing.
use mathlib.Core.Path.{◌≡◌, sym, ap, ◌∙◌, subst, refl}
use Prim.Native.Nat.{ℕ, zero, suc, ◌+◌, ◌*◌, ◌/◌, ◌%◌, ◌≤◌, ◌<◌, zero-le, suc-le-suc}
use native.Mathlib.Nat.{le_of_suc-le-suc, le_trans, le_of_eq, lt_of_le_of_lt, lt_of_lt_of_le, mul_right_comm, mul-le-mul_right, mul-lt-mul_of_pos_right, le_of_mul-le-mul_right, lt_of_mul-lt-mul_right, div-mul-le_self, lt-div-mul-add, div-eq_of_lt-le, div-add-mod', mod-lt, mod-eq_of_lt, zero-div, zero-mul, mul-one, div-one, suc-mul, mul-pos, zero-lt-suc, le-div_iff_mul-le, div-lt_iff_lt-mul, ne_of_gt}
use native.Mathlib.Numerals.{add-one}
use native.Mathlib.Omega.{arith}
use mathlib.Core.Bool.{Bool, true, false}
use lib.Dec.{T, leb→le, le→leb}
use lib.IntN.{ℤ, pos, negsuc, neg_ℤ, ◌*ℤ◌}
use lib.Signed.{le_z, ◌≤ℤ◌}
use lib.Ieee.Nearest.{div_same}
use Rattle.slider.specs.Readings.{signed}
use Rattle.slider.specs.Slider.{floor}

pub next_multiple : (q d : ℕ) → q * d + d ≡ (q + 1) * d
next_multiple q d = sym (ap (λ (n : ℕ). n * d) (add-one q) ∙ suc-mul q d)

pub under_next : (n d : ℕ) → 0 < d → n < (n / d + 1) * d
under_next n d D = subst (λ (z : ℕ). n < z) (next_multiple (n / d) d) (lt-div-mul-add D)

-- ---- equal fractions
-- (n + 1) / D and (a + 1) / d are one fraction: both lie above q and not above q + 1, where q = n / D
ceil-same : (n D a d : ℕ) → 0 < D → 0 < d → suc n * d ≡ suc a * D → n / D ≡ a / d
ceil-same n D a d P Q h =
    let q = n / D in
    let lo : q * D < suc n = suc-le-suc (div-mul-le_self n D) in
    let lo' : q * d < suc a = lt_of_mul-lt-mul_right D (lt_of_le_of_lt (le_of_eq (mul_right_comm q d D)) (lt_of_lt_of_le (mul-lt-mul_of_pos_right lo Q) (le_of_eq h))) in
    let hi' : suc a ≤ (q + 1) * d = le_of_mul-le-mul_right (le_trans (le_of_eq (sym h)) (le_trans (mul-le-mul_right d (under_next n D P)) (le_of_eq (mul_right_comm (q + 1) D d)))) P in
    sym (div-eq_of_lt-le d (le_of_suc-le-suc lo') hi')

pub floor-same : (s : Bool) (n D a d : ℕ) → 0 < D → 0 < d → n * d ≡ a * D → floor (signed s n) D ≡ floor (signed s a) d
floor-same false n D a d P Q h = ap pos (div_same n D a d P Q h)
floor-same true zero D zero d P Q h = ap pos (zero-div D ∙ sym (zero-div d))
floor-same true zero D (suc a) d P Q h = absurd (ne_of_gt (mul-pos (zero-lt-suc a) P) (sym h ∙ zero-mul d))
floor-same true (suc n) D zero d P Q h = absurd (ne_of_gt (mul-pos (zero-lt-suc n) Q) (h ∙ zero-mul D))
floor-same true (suc n) D (suc a) d P Q h = ap negsuc (ceil-same n D a d P Q h)

-- ---- a negative fraction
pub floor-cut : (n D : ℕ) → 0 < D → (n % D ≡ 0 → ⊥) → floor (signed true n) D ≡ signed true (n / D + 1)
floor-cut zero D P c = absurd (c (mod-eq_of_lt P))
floor-cut (suc n) D P c =
    let q = suc n / D in
    let e : q * D + suc n % D ≡ suc n = div-add-mod' (suc n) D in
    let l : suc n % D < D = mod-lt (suc n) P in
    ap negsuc (div-eq_of_lt-le D (below (q * D) (suc n % D) n e c) (above (q * D) (suc n % D) n D ((q + 1) * D) e l (next_multiple q D)))
    ∙ sym (ap (λ (k : ℕ). neg_ℤ (pos k)) (add-one q))
  where
    below : (x r n : ℕ) → x + r ≡ suc n → (r ≡ 0 → ⊥) → x ≤ n
    below x r n e c = omega arith

    above : (x r n D y : ℕ) → x + r ≡ suc n → r < D → x + D ≡ y → n < y
    above x r n D y e l s = omega arith

pub floor-exact : (n D : ℕ) → 0 < D → n % D ≡ 0 → floor (signed true n) D ≡ signed true (n / D)
floor-exact n D P z = floor-same true n D (n / D) 1 P (zero-lt-suc 0) (mul-one n ∙ sym whole) ∙ by_one (n / D)
  where
    whole : n / D * D ≡ n
    whole = (let e : n / D * D + n % D ≡ n = div-add-mod' n D in omega arith)

    by_one : (q : ℕ) → floor (signed true q) 1 ≡ signed true q
    by_one zero = refl
    by_one (suc q) = ap negsuc (div-one q)

-- ---- the largest whole number not above the fraction: q is not above it exactly when q is not above the floor
neg-le : (m n : ℕ) → n < m → T (le_z (neg_ℤ (pos m)) (negsuc n))
neg-le zero n h = absurd (none n h)
  where
    none : (n : ℕ) → n < 0 → ⊥
    none n h = omega arith
neg-le (suc m) n h = le→leb n m (le_of_suc-le-suc h)

le-neg : (m n : ℕ) → T (le_z (neg_ℤ (pos m)) (negsuc n)) → n < m
le-neg zero n t = absurd t
le-neg (suc m) n t = (let h : n ≤ m = leb→le n m t in omega arith)

neg-le-pos : (m n : ℕ) → T (le_z (neg_ℤ (pos m)) (pos n))
neg-le-pos zero n = le→leb 0 n zero-le
neg-le-pos (suc m) n = tt

pub floor-below : (z : ℤ) (d : ℕ) (q : ℤ) → 0 < d → q ≤ℤ floor z d → (q *ℤ pos d) ≤ℤ z
floor-below (pos n) d (pos q) D h = record { le = le→leb (q * d) n ((le-div_iff_mul-le D).0 (leb→le q (n / d) h.le)) }
floor-below (pos n) d (negsuc q) D h = record { le = neg-le-pos (suc q * d) n }
floor-below (negsuc n) d (pos q) D h = absurd h.le
floor-below (negsuc n) d (negsuc q) D h = record { le = neg-le (suc q * d) n ((div-lt_iff_lt-mul D).0 (suc-le-suc (leb→le (n / d) q h.le))) }

pub floor-above : (z : ℤ) (d : ℕ) (q : ℤ) → 0 < d → (q *ℤ pos d) ≤ℤ z → q ≤ℤ floor z d
floor-above (pos n) d (pos q) D h = record { le = le→leb q (n / d) ((le-div_iff_mul-le D).1 (leb→le (q * d) n h.le)) }
floor-above (pos n) d (negsuc q) D h = record { le = tt }
floor-above (negsuc n) d (pos q) D h = absurd h.le
floor-above (negsuc n) d (negsuc q) D h = record { le = le→leb (n / d) q (le_of_suc-le-suc ((div-lt_iff_lt-mul D).1 (le-neg (suc q * d) n h.le))) }

-- What a number's bits say of its sign and size: `split_of` by the ranges of the exponent's field. Assumes nothing.
use Rattle.std.proofs.Common.{Option, None}
use mathlib.Core.Path.{◌≡◌, refl, sym, ap, ◌∙◌, subst}
use Prim.Native.Nat.{ℕ, zero, suc, ◌+◌, ◌-◌, ◌*◌, ◌/◌, ◌%◌, ◌^◌, ◌≤◌, ◌<◌, min}
use native.Mathlib.Nat.{le_trans, le_of_eq, le_of_lt, lt_of_lt_of_le, mul_assoc, mul_right_comm, mul-one, one-mul, eq_of_mul-eq-mul_right, div-add-mod', mul-mod_left, div-eq_of_lt, mod-eq_of_lt, div-one, mod-one, mul-le-mul_left, zero-mul, div-lt_iff_lt-mul, min-eq_left, min-eq_right, le-add_right}
use native.Mathlib.Omega.{arith}
use mathlib.Core.Bool.{Bool, true, false, not, cond}
use lib.Dec.{T, leb, eqb, eqb→eq, not_T}
use lib.Pow.{pow-add, pow_pos, pow_mono, pow-lt, shl_lt}
use lib.Ieee.{Float, nan, inf, fin, up, down, binary32, odd, of_fields, of_bits, to_bits, fits}
use lib.Ieee.Bits.{of_bits-to_bits, cond_no}
use lib.Ieee.Fits.{down_pos}
use lib.Ieee.Exact.{HasValue, odd_sign}
use lib.Ieee.Nearest.{div_same}
use borrow.Author.Tests.{eqb-true, eqb-false, eq-eqb, ne_eqb}
use Rattle.slider.specs.declared.Split.{Split}
use Rattle.slider.specs.Steps.{cap, places, finite_split, split_of}

-- ---- the parts of a pattern: its sign, what is below the sign, the exponent's field, the digits
abbrev pub negative : ℕ → Bool
negative b = leb 2147483648 b

abbrev pub below-sign : ℕ → ℕ
below-sign b = b % 2147483648

abbrev pub field : ℕ → ℕ
field b = below-sign b / 8388608

abbrev pub digits : ℕ → ℕ
digits b = b % 8388608

-- the leading digit of a normal number, and the first pattern below the sign that is not finite
abbrev pub lead : ℕ
lead = 8388608

abbrev pub first-infinite : ℕ
first-infinite = 2139095040

-- ---- equal fractions leave a remainder together
no-rest : (a b c d : ℕ) → 0 < b → 0 < d → a * d ≡ c * b → a % b ≡ 0 → c % d ≡ 0
no-rest a b c d B D h z =
    let q = a / b in
    let e : c / d ≡ q = sym (div_same a b c d B D h) in
    let whole : q * b ≡ a = (let l : q * b + a % b ≡ a = div-add-mod' a b in omega arith) in
    let c-is : c ≡ q * d = sym (eq_of_mul-eq-mul_right b B (q * d) c (mul_right_comm q d b ∙ ap (λ (x : ℕ). x * d) whole ∙ h)) in
    ap (λ (x : ℕ). x % d) c-is ∙ mul-mod_left q d

pub same_bool : (a b c d : ℕ) → (a ≡ b → c ≡ d) → (c ≡ d → a ≡ b) → eqb a b ≡ eqb c d
same_bool a b c d f g = go (eqb a b) (eqb-true a b) (eqb-false a b)
  where
    go : (t : Bool) → (t ≡ true → a ≡ b) → (t ≡ false → a ≡ b → ⊥) → t ≡ eqb c d
    go true y n = sym (eq-eqb c d (f (y refl)))
    go false y n = sym (ne_eqb c d (λ h. n refl (g h)))

pub rest-same : (a b c d : ℕ) → 0 < b → 0 < d → a * d ≡ c * b → eqb (a % b) 0 ≡ eqb (c % d) 0
rest-same a b c d B D h = same_bool (a % b) 0 (c % d) 0 (no-rest a b c d B D h) (no-rest c d a b D B (sym h))

abbrev fraction_split : Bool → ℕ → ℕ → Option Split
fraction_split s a b = finite_split s (min (a / b) cap) (not (eqb (a % b) 0))

-- a finite x is ± a / c, and a * 2 ^ j / c is the fraction A / B
pub split_at : (x : Float) (s : Bool) (j a c A B : ℕ) → HasValue x s a c → 0 < c → 0 < B → a * 2 ^ j * B ≡ A * c → split_of j x ≡ fraction_split s A B
unfolding split_of
split_at nan s j a c A B v C P h = absurd v
split_at (inf t) s j a c A B v C P h = absurd v
split_at (fin t m e) s j a c A B v C P h =
    let n = m * up e * 2 ^ j in
    let cross : n * B ≡ A * down e =
    eq_of_mul-eq-mul_right c C (n * B) (A * down e)
    (mul_right_comm n B c
    ∙ ap (λ (z : ℕ). z * B) (mul_right_comm (m * up e) (2 ^ j) c ∙ ap (λ (z : ℕ). z * 2 ^ j) v.1 ∙ mul_right_comm a (down e) (2 ^ j))
    ∙ mul_right_comm (a * 2 ^ j) (down e) B
    ∙ ap (λ (z : ℕ). z * down e) h
    ∙ mul_right_comm A c (down e)) in
    ap (λ (z : Bool). finite_split z (min (n / down e) cap) (not (eqb (n % down e) 0))) v.0
    ∙ ap (λ (z : ℕ). finite_split s (min z cap) (not (eqb (n % down e) 0))) (div_same n (down e) A B (down_pos e) P cross)
    ∙ ap (λ (z : Bool). finite_split s (min (A / B) cap) (not z)) (rest-same n (down e) A B (down_pos e) P cross)

-- ---- a float by the fields of its bits
of_bits_is : (b : ℕ) → of_fields binary32 (negative b) (field b) (digits b) ≡ of_bits binary32 b
unfolding of_bits
of_bits_is b = refl

fields-of : (x : Float) → T (fits binary32 x) → of_fields binary32 (negative (to_bits binary32 x)) (field (to_bits binary32 x)) (digits (to_bits binary32 x)) ≡ x
fields-of x h = of_bits_is (to_bits binary32 x) ∙ of_bits-to_bits binary32 x h

none_of : (j : ℕ) (c s : Bool) → split_of j (cond c (inf s) nan) ≡ None
unfolding split_of
none_of j true s = refl
none_of j false s = refl

at-255 : (s : Bool) (t : ℕ) → of_fields binary32 s 255 t ≡ cond (eqb t 0) (inf s) nan
unfolding of_fields
at-255 s t = refl

top_field : (b : ℕ) → first-infinite ≤ below-sign b → field b ≡ 255
top_field b h = omega arith

pub not_finite : (x : Float) (j : ℕ) → T (fits binary32 x) → first-infinite ≤ below-sign (to_bits binary32 x) → split_of j x ≡ None
not_finite x j held h =
    let b = to_bits binary32 x in
    let s = negative b in
    let t = digits b in
    sym (ap (split_of j) (ap (λ (f : ℕ). of_fields binary32 s f t) (sym (top_field b h)) ∙ fields-of x held))
    ∙ ap (split_of j) (at-255 s t)
    ∙ none_of j (eqb t 0) s

-- the size in units of 2 ^ -149
abbrev units : ℕ → ℕ → ℕ
units zero t = t * 2 ^ 0
units (suc f) t = (lead + t) * 2 ^ f

field-value : (s : Bool) (f t : ℕ) → f < 255 → HasValue (of_fields binary32 s f t) s (units f t) (2 ^ 149)
unfolding of_fields
field-value s zero t h = odd_sign 24 s t 0 149
field-value s (suc f) t h =
    subst (λ (v : Float). HasValue v s ((lead + t) * 2 ^ f) (2 ^ 149))
    (sym (cond_no (eqb (suc f) 255) (cond (eqb t 0) (inf s) nan) (odd 24 s (lead + t) f 149) (not_T (eqb (suc f) 255) (λ u. differ f h (eqb→eq (suc f) 255 u)))))
    (odd_sign 24 s (lead + t) f 149)
  where
    differ : (x : ℕ) → suc x < 255 → suc x ≡ 255 → ⊥
    differ x h e = omega arith

small-field : (b : ℕ) → below-sign b < first-infinite → field b < 255
small-field b h = omega arith

pub value_of : (x : Float) → T (fits binary32 x) → below-sign (to_bits binary32 x) < first-infinite
    → HasValue x (negative (to_bits binary32 x)) (units (field (to_bits binary32 x)) (digits (to_bits binary32 x))) (2 ^ 149)
value_of x held h =
    let b = to_bits binary32 x in
    let s = negative b in
    let f = field b in
    let t = digits b in
    subst (λ (v : Float). HasValue v s (units f t) (2 ^ 149)) (fields-of x held) (field-value s f t (small-field b h))

-- ---- the three ranges of the exponent
pub no-product : (a p : ℕ) → 0 < p → a * p ≡ 0 → a ≡ 0
no-product a p P h = eq_of_mul-eq-mul_right p P a 0 (h ∙ sym (zero-mul p))

reach-low : (f t j : ℕ) → t < lead → f + j < 127 → units f t * 2 ^ j < 2 ^ 149
reach-low zero t j h k = lt_of_lt_of_le (shl_lt (23 + 0) j (shl_lt 23 0 h)) (pow_mono (fit j k))
  where
    fit : (j : ℕ) → 0 + j < 127 → 23 + 0 + j ≤ 149
    fit j h = omega arith
reach-low (suc f) t j h k = lt_of_lt_of_le (shl_lt (24 + f) j (shl_lt 24 f (lead-lt t h))) (pow_mono (fit f j k))
  where
    lead-lt : (t : ℕ) → t < lead → lead + t < 2 ^ 24
    lead-lt t h = omega arith

    fit : (f j : ℕ) → suc f + j < 127 → 24 + f + j ≤ 149
    fit f j h = omega arith

zero-low : (f t j : ℕ) → units f t * 2 ^ j ≡ 0 → f * lead + t ≡ 0
zero-low zero t j h = plain (no-product t (2 ^ 0) (pow_pos 0) (no-product (t * 2 ^ 0) (2 ^ j) (pow_pos j) h))
  where
    plain : t ≡ 0 → 0 * lead + t ≡ 0
    plain e = omega arith
zero-low (suc f) t j h = absurd (no (no-product (lead + t) (2 ^ f) (pow_pos f) (no-product ((lead + t) * 2 ^ f) (2 ^ j) (pow_pos j) h)))
  where
    no : lead + t ≡ 0 → ⊥
    no e = omega arith

low-zero : (f t j : ℕ) → f * lead + t ≡ 0 → units f t * 2 ^ j ≡ 0
low-zero zero t j h = ap (λ (x : ℕ). x * 2 ^ 0 * 2 ^ j) (plain h) ∙ zero-mul (2 ^ j)
  where
    plain : 0 * lead + t ≡ 0 → t ≡ 0
    plain e = omega arith
low-zero (suc f) t j h = absurd (no h)
  where
    no : suc f * lead + t ≡ 0 → ⊥
    no e = omega arith

join-fields : (b : ℕ) → field b * lead + digits b ≡ below-sign b
join-fields b = omega arith

digits_lt : (b : ℕ) → digits b < lead
digits_lt b = omega arith

pub low-range : (x : Float) (j : ℕ) → T (fits binary32 x) → below-sign (to_bits binary32 x) < first-infinite → field (to_bits binary32 x) + j < 127
    → split_of j x ≡ finite_split (negative (to_bits binary32 x)) 0 (not (eqb (below-sign (to_bits binary32 x)) 0))
low-range x j held h k =
    let b = to_bits binary32 x in
    let s = negative b in
    let f = field b in
    let t = digits b in
    let a = units f t in
    let under : a * 2 ^ j < 2 ^ 149 = reach-low f t j (digits_lt b) k in
    split_at x s j a (2 ^ 149) (a * 2 ^ j) (2 ^ 149) (value_of x held h) (pow_pos 149) (pow_pos 149) refl
    ∙ ap (λ (z : ℕ). finite_split s (min z cap) (not (eqb (a * 2 ^ j % 2 ^ 149) 0))) (div-eq_of_lt under)
    ∙ ap (λ (z : ℕ). finite_split s 0 (not (eqb z 0))) (mod-eq_of_lt under)
    ∙ ap (λ (z : Bool). finite_split s 0 (not z))
    (same_bool (a * 2 ^ j) 0 (below-sign b) 0 (λ e. sym (join-fields b) ∙ zero-low f t j e) (λ e. low-zero f t j (join-fields b ∙ e)))

spread : (m f j k : ℕ) → m * 2 ^ f * 2 ^ j * 2 ^ k ≡ m * 2 ^ (f + j + k)
spread m f j k =
    ap (λ (z : ℕ). z * 2 ^ k) (mul_assoc m (2 ^ f) (2 ^ j) ∙ ap (λ (z : ℕ). m * z) (sym (pow-add 2 f j)))
    ∙ mul_assoc m (2 ^ (f + j)) (2 ^ k)
    ∙ ap (λ (z : ℕ). m * z) (sym (pow-add 2 (f + j) k))

mid-unit : (x : Float) (s : Bool) (f t j : ℕ) → HasValue x s (units f t) (2 ^ 149) → t < lead → j ≤ places → 127 ≤ f + j → f + j < 150
    → split_of j x ≡ finite_split s ((lead + t) / 2 ^ (150 - (f + j))) (not (eqb ((lead + t) % 2 ^ (150 - (f + j))) 0))
mid-unit x s zero t j v h J l k = absurd (no j J l)
  where
    no : (j : ℕ) → j ≤ places → 127 ≤ 0 + j → ⊥
    no j a b = omega arith
mid-unit x s (suc f) t j v h J l k =
    let m = lead + t in
    let u = 150 - (suc f + j) in
    let whole : f + j + u ≡ 149 = adds f j k in
    split_at x s j (m * 2 ^ f) (2 ^ 149) m (2 ^ u) v (pow_pos 149) (pow_pos u) (spread m f j u ∙ ap (λ (z : ℕ). m * 2 ^ z) whole)
    ∙ ap (λ (z : ℕ). finite_split s z (not (eqb (m % 2 ^ u) 0)))
    (min-eq_left (le_of_lt ((div-lt_iff_lt-mul (pow_pos u)).1 (lt_of_lt_of_le (lead-lt t h) (mul-le-mul_left lead (pow_mono (some f j k)))))))
  where
    adds : (f j : ℕ) → suc f + j < 150 → f + j + (150 - (suc f + j)) ≡ 149
    adds f j h = omega arith

    lead-lt : (t : ℕ) → t < lead → lead + t < lead * 2 ^ 1
    lead-lt t h = omega arith

    some : (f j : ℕ) → suc f + j < 150 → 1 ≤ 150 - (suc f + j)
    some f j h = omega arith

high-unit : (x : Float) (s : Bool) (f t j : ℕ) → HasValue x s (units f t) (2 ^ 149) → j ≤ places → 150 ≤ f + j
    → split_of j x ≡ finite_split s cap false
high-unit x s zero t j v J l = absurd (no j J l)
  where
    no : (j : ℕ) → j ≤ places → 150 ≤ 0 + j → ⊥
    no j a b = omega arith
high-unit x s (suc f) t j v J l =
    let m = lead + t in
    let u = f + j - 149 in
    let A = m * 2 ^ u in
    split_at x s j (m * 2 ^ f) (2 ^ 149) A 1 v (pow_pos 149) (pow_pos 0)
    (spread m f j 0 ∙ ap (λ (z : ℕ). m * 2 ^ z) (adds f j l) ∙ ap (λ (z : ℕ). m * z) (pow-add 2 u 149) ∙ sym (mul_assoc m (2 ^ u) (2 ^ 149)))
    ∙ ap (λ (z : ℕ). finite_split s z (not (eqb (A % 1) 0)))
    (ap (λ (z : ℕ). min z cap) (div-one A) ∙ min-eq_right (le_trans (le-add_right lead t) (le_trans (le_of_eq (sym (mul-one m))) (mul-le-mul_left m (pow_pos u)))))
    ∙ ap (λ (z : ℕ). finite_split s cap (not (eqb z 0))) (mod-one A)
  where
    adds : (f j : ℕ) → 150 ≤ suc f + j → f + j + 0 ≡ f + j - 149 + 149
    adds f j h = omega arith

pub mid-range : (x : Float) (j : ℕ) → T (fits binary32 x) → below-sign (to_bits binary32 x) < first-infinite → j ≤ places
    → 127 ≤ field (to_bits binary32 x) + j → field (to_bits binary32 x) + j < 150
    → split_of j x ≡ finite_split (negative (to_bits binary32 x)) ((lead + digits (to_bits binary32 x)) / 2 ^ (150 - (field (to_bits binary32 x) + j))) (not (eqb ((lead + digits (to_bits binary32 x)) % 2 ^ (150 - (field (to_bits binary32 x) + j))) 0))
mid-range x j held h J l k =
    let b = to_bits binary32 x in
    mid-unit x (negative b) (field b) (digits b) j (value_of x held h) (digits_lt b) J l k

pub high-range : (x : Float) (j : ℕ) → T (fits binary32 x) → below-sign (to_bits binary32 x) < first-infinite → j ≤ places
    → 150 ≤ field (to_bits binary32 x) + j
    → split_of j x ≡ finite_split (negative (to_bits binary32 x)) cap false
high-range x j held h J l =
    let b = to_bits binary32 x in
    high-unit x (negative b) (field b) (digits b) j (value_of x held h) J l

-- 1 << k
pub one_shifted : (k : ℕ) → k ≤ 23 → (1 * 2 ^ k) % 2 ^ 32 ≡ 2 ^ k
one_shifted k h = ap (λ (z : ℕ). z % 2 ^ 32) (one-mul (2 ^ k)) ∙ mod-eq_of_lt (pow-lt (fit k h))
  where
    fit : (k : ℕ) → k ≤ 23 → k < 32
    fit k h = omega arith

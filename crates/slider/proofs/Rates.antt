-- Rate: what a use takes of work / position in binary32 is what it takes of the fraction of 01, and 10 where the position is 0. Assumes nothing.
use mathlib.Core.Path.{◌≡◌, refl, sym, ap, ◌∙◌, subst}
use Prim.Native.Nat.{ℕ, zero, suc, ◌*◌, ◌≤◌, ◌<◌}
use native.Mathlib.Nat.{mul_assoc, mul_comm, mul_left_comm, mul-one, mul-pos, mul-le-mul_left, zero-mul, zero-lt-suc, suc-ne-zero, ne_of_gt}
use native.Mathlib.Omega.{arith}
use mathlib.Core.Bool.{Bool, true, false, ◌&&◌, ◌||◌, beq, cond}
use lib.Dec.{T, eqb, lit<, lit≤, eqb-suc-zero}
use lib.IntN.{ℤ, pos, negsuc, nat_abs, ◌*ℤ◌, pos-ne-negsuc}
use lib.Signed.{non_neg}
use lib.Ieee.{Float, nan, inf, fin, up, down, binary32, unlike, round, div, eq, level, of_bits}
use lib.Ieee.Fits.{up_pos, down_pos}
use lib.Ieee.Exact.{HasValue}
use lib.Ieee.Scale.{round_same}
use borrow.Author.Tests.{eqb-true, eqb-false}
use Rattle.slider.specs.declared.Use.{Use}
use Rattle.slider.specs.Readings.{work_limit, grid, signed, Reading, at, off, reading, work_of, position_of}
use Rattle.slider.specs.Slider.{unread, at_zero, kept, bounded, rate_gives, fixed_gives}
use Rattle.slider.specs.Steps.{is_at}
use Rattle.slider.proofs.Bits.{same_bool, no-product}
use Rattle.slider.proofs.Exactly.{Val, rounded, size_of}
use Rattle.slider.proofs.Readings.{at_of, read-val, within-at, allowed-le, allowed-pos, position-not-below, taken-same, fixed-val}
use Rattle.slider.proofs.Quotient.{quotient-taken}

-- ---- the division
-- a number above 0 has no sign
plain-val : (x : Float) (n d : ℕ) → Val x (pos (suc n)) d → HasValue x false (suc n) d
plain-val x n d v = go v.sign v.size v.value v.is
  where
    go : (s : Bool) (a : ℕ) → HasValue x s a d → pos (suc n) ≡ signed s a → HasValue x false (suc n) d
    go false a h e = subst (λ (k : ℕ). HasValue x false k d) (sym (ap nat_abs e)) h
    go true zero h e = absurd (suc-ne-zero n (ap nat_abs e))
    go true (suc a) h e = absurd (pos-ne-negsuc (suc n) a e)

no_zero : (b : ℕ) (t : Bool) (d : ℤ) → 0 < b → HasValue (fin t zero d) false b grid → ⊥
no_zero b t d B w = ne_of_gt (mul-pos B (down_pos d)) (sym w.1 ∙ ap (λ (k : ℕ). k * grid) (zero-mul (up d)))

div_is : (x y : Float) (a b : ℕ) → 0 < b → HasValue x false a 1 → HasValue y false b grid → div binary32 x y ≡ round binary32 false (grid * a) b
unfolding div
div_is nan y a b B v w = absurd v
div_is (inf s) y a b B v w = absurd v
div_is (fin s m e) nan a b B v w = absurd w
div_is (fin s m e) (inf t) a b B v w = absurd w
div_is (fin s m e) (fin t zero d) a b B v w = absurd (no_zero b t d B w)
div_is (fin s m e) (fin t (suc n) d) a b B v w =
    let bottom = suc n * up d * down e in
    ap (λ (r : Bool). cond r (cond (eqb m 0) nan (inf (unlike s t))) (round binary32 (unlike s t) (m * up e * down d) bottom)) (eqb-suc-zero n)
    ∙ ap (λ (r : Bool). round binary32 (unlike r t) (m * up e * down d) bottom) v.0
    ∙ ap (λ (r : Bool). round binary32 (unlike false r) (m * up e * down d) bottom) w.0
    ∙ round_same binary32 false (m * up e * down d) bottom (grid * a) b (mul-pos (mul-pos (zero-lt-suc n) (up_pos d)) (down_pos e)) B
    (ap (λ (k : ℕ). k * down d * b) (sym (mul-one (m * up e)) ∙ v.1)
    ∙ shuffle a (down e) (down d) b
    ∙ ap (λ (k : ℕ). a * down e * k) (sym w.1)
    ∙ shuffle' a (down e) (suc n * up d) grid)
  where
    shuffle : (a e d b : ℕ) → a * e * d * b ≡ a * e * (b * d)
    shuffle a e d b = mul_assoc (a * e) d b ∙ ap (λ (k : ℕ). a * e * k) (mul_comm d b)

    shuffle' : (a e n c : ℕ) → a * e * (n * c) ≡ c * a * (n * e)
    shuffle' a e n c = simp (mul_assoc, mul_comm, mul_left_comm)

-- a zero over anything
zero-div-val : (x y : Float) (k : ℕ) → Val x (pos 0) 1 → HasValue y false (suc k) grid → Val (div binary32 x y) (pos 0) 1
unfolding div
zero-div-val nan y k v w = absurd v.value
zero-div-val (inf s) y k v w = absurd v.value
zero-div-val (fin s m e) nan k v w = absurd w
zero-div-val (fin s m e) (inf t) k v w = absurd w
zero-div-val (fin s m e) (fin t zero d) k v w = absurd (no_zero (suc k) t d (zero-lt-suc k) w)
zero-div-val (fin s m e) (fin t (suc n) d) k v w =
    let bottom = suc n * up d * down e in
    let none : m * up e ≡ 0 = sym (mul-one (m * up e)) ∙ v.value.1 ∙ ap (λ (k : ℕ). k * down e) (size_of v) ∙ zero-mul (down e) in
    let top-none : m * up e * down d ≡ 0 = ap (λ (k : ℕ). k * down d) none ∙ zero-mul (down d) in
    let is : round binary32 (unlike s t) (m * up e * down d) bottom ≡ div binary32 (fin s m e) (fin t (suc n) d) = sym (ap (λ (r : Bool). cond r (cond (eqb m 0) nan (inf (unlike s t))) (round binary32 (unlike s t) (m * up e * down d) bottom)) (eqb-suc-zero n)) in
    subst (λ (r : Float). Val r (pos 0) 1) is
    (record {
      sign = unlike s t;
      size = 0;
      value = rounded (unlike s t) (m * up e * down d) bottom 0 0 (mul-pos (mul-pos (zero-lt-suc n) (up_pos d)) (down_pos e)) (lit≤ tt) (lit< tt) (mul-one (m * up e * down d) ∙ top-none ∙ sym (zero-mul bottom));
      is = zero_is (unlike s t);
    })
  where
    zero_is : (b : Bool) → pos 0 ≡ signed b 0
    zero_is true = refl
    zero_is false = refl

-- the bound of 01 for work / position
pub rate-taken : (u : Use) (work p : Float) (w : ℤ) (k : ℕ) → work_of work ≡ at w → position_of p ≡ at (pos (suc k))
    → fixed_gives u (div binary32 work p) ≡ bounded u (pos grid *ℤ w) (suc k)
rate-taken u work p w k ew ek =
    let ww = within-at false work_limit (reading 1 work) w ew in
    let wk = within-at false grid (reading grid p) (pos (suc k)) ek in
    go w (read-val 1 work w ww.0) (allowed-le false work_limit w ww.1) (allowed-pos work_limit w ww.1)
    (plain-val p k grid (read-val grid p (pos (suc k)) wk.0)) (allowed-le false grid (pos (suc k)) wk.1)
  where
    some : (w k : ℕ) → suc k ≤ grid → suc k ≤ grid * suc w
    some w k h = omega arith

    go : (w : ℤ) → Val work w 1 → nat_abs w ≤ work_limit → T (non_neg w) → HasValue p false (suc k) grid → suc k ≤ grid
        → fixed_gives u (div binary32 work p) ≡ bounded u (pos grid *ℤ w) (suc k)
    go (pos zero) v l s h b =
        fixed-val u (div binary32 work p) (pos 0) 1 (lit< tt) (zero-div-val work p k v h) ∙ ap kept (taken-same u false 0 1 0 (suc k) (lit< tt) (zero-lt-suc k) (zero-mul (suc k)))
    go (pos (suc w)) v l s h b =
        ap (fixed_gives u) (div_is work p (suc w) (suc k) (zero-lt-suc k) (plain-val work w 1 v) h)
        ∙ quotient-taken u (grid * suc w) (suc k) (zero-lt-suc k) b (some w k b) (mul-le-mul_left grid l)
    go (negsuc w) v l s h b = absurd s

-- ---- a position that equals 0.0
zero-level : (s : Bool) (A B : ℕ) → B ≡ 0 → level s A false B ≡ eqb A 0
zero-level s A B e = ap (level s A false) e ∙ go (eqb A 0) (beq s false)
  where
    go : (r t : Bool) → (r && (t || r)) ≡ r
    go true true = refl
    go true false = refl
    go false t = refl

pub zero_test : (p : Float) (k : ℕ) → Val p (pos k) grid → eq p (of_bits binary32 0) ≡ eqb k 0
unfolding eq of_bits
zero_test nan k v = absurd v.value
zero_test (inf s) k v = absurd v.value
zero_test (fin s m e) k v =
    zero-level s (m * up e * 1) (0 * down e) (zero-mul (down e))
    ∙ same_bool (m * up e * 1) 0 k 0
    (λ z. sym (size_of v) ∙ no-product v.size (down e) (down_pos e) (sym v.value.1 ∙ up_to (m * up e) z))
    (λ z. down_to (m * up e) (v.value.1 ∙ ap (λ (a : ℕ). a * down e) (size_of v ∙ z) ∙ zero-mul (down e)))
  where
    up_to : (x : ℕ) → x * 1 ≡ 0 → x * grid ≡ 0
    up_to x h = omega arith

    down_to : (x : ℕ) → x * grid ≡ 0 → x * 1 ≡ 0
    down_to x h = omega arith

-- ---- the ways through `rate`
-- a position that is on its grid is pos k for some k, and its test for 0.0 is that of k
position-is : (p : Float) → is_at (position_of p) ≡ true → (k : ℕ) × (position_of p ≡ at (pos k)) × (eq p (of_bits binary32 0) ≡ eqb k 0)
position-is p h = let z = at_of (position_of p) h in go z.0 z.1
  where
    go : (z : ℤ) → position_of p ≡ at z → (k : ℕ) × (position_of p ≡ at (pos k)) × (eq p (of_bits binary32 0) ≡ eqb k 0)
    go (pos k) e = (k, e, zero_test p k (read-val grid p (pos k) (within-at false grid (reading grid p) (pos k) e).0))
    go (negsuc k) e = absurd (position-not-below p k e)

pub rate-zero : (u : Use) (work p : Float) → is_at (work_of work) ≡ true → is_at (position_of p) ≡ true → eq p (of_bits binary32 0) ≡ true → rate_gives u (work_of work) (position_of p) ≡ at_zero
unfolding rate_gives
rate-zero u work p a b z =
    let w = at_of (work_of work) a in
    let k = position-is p b in
    ap (λ (r : Reading). rate_gives u r (position_of p)) w.1
    ∙ ap (λ (r : Reading). rate_gives u (at w.0) r) k.1
    ∙ ap (λ (n : ℕ). rate_gives u (at w.0) (at (pos n))) (eqb-true k.0 0 (sym k.2 ∙ z))

pub rate-read : (u : Use) (work p : Float) → is_at (work_of work) ≡ true → is_at (position_of p) ≡ true → eq p (of_bits binary32 0) ≡ false
    → fixed_gives u (div binary32 work p) ≡ rate_gives u (work_of work) (position_of p)
unfolding rate_gives
rate-read u work p a b z =
    let w = at_of (work_of work) a in
    let k = position-is p b in
    go k.0 k.1 (eqb-false k.0 0 (sym k.2 ∙ z)) w.0 w.1
  where
    go : (k : ℕ) → position_of p ≡ at (pos k) → (k ≡ 0 → ⊥) → (w : ℤ) → work_of work ≡ at w → fixed_gives u (div binary32 work p) ≡ rate_gives u (work_of work) (position_of p)
    go zero e n w f = absurd (n refl)
    go (suc k) e n w f =
        rate-taken u work p w k f e
        ∙ sym (ap (λ (r : Reading). rate_gives u r (position_of p)) f ∙ ap (λ (r : Reading). rate_gives u (at w) r) e)

pub work-unread : (u : Use) (w k : Reading) → is_at w ≡ false → rate_gives u w k ≡ unread
unfolding rate_gives
work-unread u (at z) k e = absurd (subst T e tt)
work-unread u off k e = refl

pub rate-place-unread : (u : Use) (w k : Reading) → is_at k ≡ false → rate_gives u w k ≡ unread
unfolding rate_gives
rate-place-unread u off k e = refl
rate-place-unread u (at w) (at z) e = absurd (subst T e tt)
rate-place-unread u (at w) off e = refl

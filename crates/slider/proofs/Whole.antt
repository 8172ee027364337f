-- Whole numbers by sign and size: their sums, products, order and sizes. Assumes nothing.
use mathlib.Core.Path.{◌≡◌, refl, sym, ap, ◌∙◌, subst}
use Prim.Native.Nat.{ℕ, zero, suc, ◌+◌, ◌-◌, ◌*◌, ◌≤◌, ◌<◌, zero-le, suc-le-suc}
use native.Mathlib.Nat.{le_refl, le_of_suc-le-suc, zero-mul, mul-zero, add-zero, sub-zero}
use native.Mathlib.Omega.{arith}
use mathlib.Core.Bool.{Bool, true, false, not, cond}
use lib.Dec.{T, ltb, ltb→lt, leb→le, le→leb}
use lib.IntN.{ℤ, pos, negsuc, neg_ℤ, nat_abs, sub_ℕ, ◌+ℤ◌, ◌*ℤ◌, +ℤ_comm, neg_ℤ-+ℤ, neg_ℤ-neg_ℤ, zero-*ℤ, *ℤ-zero}
use lib.Signed.{◌≤ℤ◌}
use lib.Ieee.{unlike}
use borrow.Author.Tests.{le-ltb}
use Rattle.slider.specs.Readings.{signed}

pub abs-signed : (s : Bool) (n : ℕ) → nat_abs (signed s n) ≡ n
abs-signed true zero = refl
abs-signed true (suc n) = refl
abs-signed false n = refl

pub neg-signed : (s : Bool) (n : ℕ) → neg_ℤ (signed s n) ≡ signed (not s) n
neg-signed true n = neg_ℤ-neg_ℤ (pos n)
neg-signed false n = refl

-- ---- sums
pub sub-ge : (a b : ℕ) → b ≤ a → pos a +ℤ neg_ℤ (pos b) ≡ pos (a - b)
sub-ge a zero h = ap pos (add-zero a ∙ sym (sub-zero a))
sub-ge a (suc b) h = ap (λ (t : Bool). cond t (negsuc (suc b - suc a)) (pos (a - suc b))) (le-ltb a (suc b) h)

pub sub-le : (a b : ℕ) → a ≤ b → pos a +ℤ neg_ℤ (pos b) ≡ neg_ℤ (pos (b - a))
sub-le a b h =
    ap (λ (z : ℤ). z +ℤ neg_ℤ (pos b)) (sym (neg_ℤ-neg_ℤ (pos a)))
    ∙ +ℤ_comm (neg_ℤ (neg_ℤ (pos a))) (neg_ℤ (pos b))
    ∙ sym (neg_ℤ-+ℤ (pos b) (neg_ℤ (pos a)))
    ∙ ap neg_ℤ (sub-ge b a h)

-- ---- products
pub mul-signed : (s t : Bool) (a b : ℕ) → signed s a *ℤ signed t b ≡ signed (unlike s t) (a * b)
mul-signed false false a b = refl
mul-signed false true a zero = *ℤ-zero (pos a) ∙ ap (λ (n : ℕ). neg_ℤ (pos n)) (sym (mul-zero a))
mul-signed false true a (suc b) = refl
mul-signed true false zero b = zero-*ℤ (pos b) ∙ ap (λ (n : ℕ). neg_ℤ (pos n)) (sym (zero-mul b))
mul-signed true false (suc a) b = refl
mul-signed true true zero b = zero-*ℤ (neg_ℤ (pos b)) ∙ ap pos (sym (zero-mul b))
mul-signed true true (suc a) zero = *ℤ-zero (negsuc a) ∙ ap pos (sym (mul-zero (suc a)))
mul-signed true true (suc a) (suc b) = refl

pub signed_by : (s : Bool) (n d : ℕ) → signed s n *ℤ pos d ≡ signed s (n * d)
signed_by s n d = mul-signed s false n d ∙ ap (λ (t : Bool). signed t (n * d)) (plain s)
  where
    plain : (s : Bool) → unlike s false ≡ s
    plain true = refl
    plain false = refl

pub neg-times : (z : ℤ) (d : ℕ) → neg_ℤ z *ℤ pos d ≡ neg_ℤ (z *ℤ pos d)
neg-times (pos n) d = signed_by true n d
neg-times (negsuc n) d = sym (neg_ℤ-neg_ℤ (pos (suc n * d)))

-- ---- the order, turned round by the sign
pub neg-le-neg : (a b : ℤ) → a ≤ℤ b → neg_ℤ b ≤ℤ neg_ℤ a
neg-le-neg (pos zero) (pos zero) h = h
neg-le-neg (pos zero) (pos (suc b)) h = record { le = tt }
neg-le-neg (pos (suc a)) (pos zero) h = absurd (no a (leb→le (suc a) 0 h.le))
  where
    no : (a : ℕ) → suc a ≤ 0 → ⊥
    no a h = omega arith
neg-le-neg (pos (suc a)) (pos (suc b)) h = record { le = le→leb a b (le_of_suc-le-suc (leb→le (suc a) (suc b) h.le)) }
neg-le-neg (pos a) (negsuc b) h = absurd h.le
neg-le-neg (negsuc a) (pos zero) h = record { le = le→leb 0 (suc a) zero-le }
neg-le-neg (negsuc a) (pos (suc b)) h = record { le = tt }
neg-le-neg (negsuc a) (negsuc b) h = record { le = le→leb (suc b) (suc a) (suc-le-suc (leb→le b a h.le)) }

pub neg-le-flip : (a b : ℤ) → neg_ℤ a ≤ℤ b → neg_ℤ b ≤ℤ a
neg-le-flip a b h = subst (λ (z : ℤ). neg_ℤ b ≤ℤ z) (neg_ℤ-neg_ℤ a) (neg-le-neg (neg_ℤ a) b h)

pub neg-le-cancel : (a b : ℤ) → neg_ℤ a ≤ℤ neg_ℤ b → b ≤ℤ a
neg-le-cancel a b h = subst (λ (z : ℤ). z ≤ℤ a) (neg_ℤ-neg_ℤ b) (neg-le-flip a (neg_ℤ b) h)

-- ---- sizes
pub abs-mul : (z w : ℤ) → nat_abs (z *ℤ w) ≡ nat_abs z * nat_abs w
abs-mul (pos a) (pos b) = refl
abs-mul (pos a) (negsuc b) = abs-signed true (a * suc b)
abs-mul (negsuc a) (pos b) = abs-signed true (suc a * b)
abs-mul (negsuc a) (negsuc b) = refl

pub abs_neg : (z : ℤ) → nat_abs (neg_ℤ z) ≡ nat_abs z
abs_neg (pos zero) = refl
abs_neg (pos (suc n)) = refl
abs_neg (negsuc n) = refl

abs-sub : (a b : ℕ) → nat_abs (sub_ℕ a b) ≤ a + b
abs-sub a b = go (ltb a b) (ltb→lt a b)
  where
    less : (a b : ℕ) → a < b → suc (b - suc a) ≤ a + b
    less a b h = omega arith

    more : (a b : ℕ) → a - b ≤ a + b
    more a b = omega arith

    go : (t : Bool) → (T t → a < b) → nat_abs (cond t (negsuc (b - suc a)) (pos (a - b))) ≤ a + b
    go true h = less a b (h tt)
    go false h = more a b

pub abs-add : (z w : ℤ) → nat_abs (z +ℤ w) ≤ nat_abs z + nat_abs w
abs-add (pos a) (pos b) = le_refl (a + b)
abs-add (pos a) (negsuc b) = abs-sub a (suc b)
abs-add (negsuc a) (pos b) = turn (nat_abs (sub_ℕ b (suc a))) a b (abs-sub b (suc a))
  where
    turn : (x a b : ℕ) → x ≤ b + suc a → x ≤ suc a + b
    turn x a b h = omega arith
abs-add (negsuc a) (negsuc b) = two a b
  where
    two : (a b : ℕ) → suc (suc (a + b)) ≤ suc a + suc b
    two a b = omega arith

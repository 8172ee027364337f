-- Whole numbers for `omega`: each as the difference of two naturals, what it rises less what it falls. Assumes nothing.
use mathlib.Core.Path.{◌≡◌, refl, sym, ap, ◌∙◌}
use mathlib.Core.Bool.{Bool, true, false, cond}
use mathlib.Core.Logic.{◌⊎◌, inl, inr}
use Prim.Native.Nat.{ℕ, zero, suc, ◌+◌, ◌-◌, ◌*◌, ◌<◌, ◌≤◌}
use native.Mathlib.Omega.{arith}
use lib.Dec.{ltb, leb→le, le→leb}
use lib.IntN.{ℤ, pos, negsuc, neg_ℤ, nat_abs, sub_ℕ, ◌+ℤ◌, ◌-ℤ◌, +ℤ-neg_ℤ_cancel}
use lib.Signed.{le_z, ◌≤ℤ◌}
use native.Mathlib.Decide.{dec_le}
use borrow.Author.Tests.{ltb-true, ltb-false}
use Rattle.laws.proofs.Tests.{is_true, is_false}
use Rattle.laws.proofs.Differences.{above-is, sub_is}

abbrev pub up : ℤ → ℕ
up (pos n) = n
up (negsuc n) = 0

abbrev pub down : ℤ → ℕ
down (pos n) = 0
down (negsuc n) = suc n

pub sub-law : (a b : ℕ) → up (sub_ℕ a b) + b ≡ a + down (sub_ℕ a b)
sub-law a b = go (ltb a b) refl
  where
    go : (t : Bool) → ltb a b ≡ t → up (cond t (negsuc (b - suc a)) (pos (a - b))) + b ≡ a + down (cond t (negsuc (b - suc a)) (pos (a - b)))
    go true e = omega (arith, ltb-true a b e)
    go false e = omega (arith, ltb-false a b e)

pub neg-up : (a : ℤ) → up (neg_ℤ a) ≡ down a
neg-up (pos zero) = refl
neg-up (pos (suc n)) = refl
neg-up (negsuc n) = refl

pub neg-down : (a : ℤ) → down (neg_ℤ a) ≡ up a
neg-down (pos zero) = refl
neg-down (pos (suc n)) = refl
neg-down (negsuc n) = refl

pub add-law : (a b : ℤ) → up (a +ℤ b) + down a + down b ≡ up a + up b + down (a +ℤ b)
add-law (pos a) (pos b) = omega arith
add-law (pos a) (negsuc b) = omega (arith, sub-law a (suc b))
add-law (negsuc a) (pos b) = omega (arith, sub-law b (suc a))
add-law (negsuc a) (negsuc b) = omega arith

pub minus-law : (a b : ℤ) → up (a -ℤ b) + down a + up b ≡ up a + down b + down (a -ℤ b)
minus-law a b = omega (arith, add-law a (neg_ℤ b), neg-up b, neg-down b)

pub le-to : (a b : ℤ) → a ≤ℤ b → up a + down b ≤ up b + down a
le-to (pos a) (pos b) h = omega (arith, leb→le a b h.le)
le-to (pos a) (negsuc b) h = absurd h.le
le-to (negsuc a) (pos b) h = omega arith
le-to (negsuc a) (negsuc b) h = omega (arith, leb→le b a h.le)

pub le_of : (a b : ℤ) → up a + down b ≤ up b + down a → a ≤ℤ b
le_of (pos a) (pos b) h = record { le = le→leb a b (omega arith) }
le_of (pos a) (negsuc b) h = absurd (omega arith)
le_of (negsuc a) (pos b) h = record { le = tt }
le_of (negsuc a) (negsuc b) h = record { le = le→leb b a (omega arith) }

pub same_of : (a b : ℤ) → up a + down b ≡ up b + down a → a ≡ b
same_of (pos a) (pos b) h = ap pos (omega arith)
same_of (pos a) (negsuc b) h = absurd (omega arith)
same_of (negsuc a) (pos b) h = absurd (omega arith)
same_of (negsuc a) (negsuc b) h = ap negsuc (omega arith)

pub ≤ℤ-trans : {a b c : ℤ} → a ≤ℤ b → b ≤ℤ c → a ≤ℤ c
≤ℤ-trans {a} {b} {c} h k = le_of a c (omega (arith, le-to a b h, le-to b c k))

pub ≤ℤ-antisym : {a b : ℤ} → a ≤ℤ b → b ≤ℤ a → a ≡ b
≤ℤ-antisym {a} {b} h k = same_of a b (omega (arith, le-to a b h, le-to b a k))

pub +ℤ-mono : {a b c d : ℤ} → a ≤ℤ b → c ≤ℤ d → (a +ℤ c) ≤ℤ (b +ℤ d)
+ℤ-mono {a} {b} {c} {d} h k = le_of (a +ℤ c) (b +ℤ d) (omega (arith, le-to a b h, le-to c d k, add-law a c, add-law b d))

-- one of two numbers is at most the other
pub ≤ℤ-or : (a b : ℤ) → ((a ≤ℤ b) × (le_z a b ≡ true)) ⊎ ((b ≤ℤ a) × (le_z a b ≡ false))
≤ℤ-or a b = go (dec_le (up a + down b) (up b + down a))
  where
    go : Dec (up a + down b ≤ up b + down a) → ((a ≤ℤ b) × (le_z a b ≡ true)) ⊎ ((b ≤ℤ a) × (le_z a b ≡ false))
    go (yes h) = inl (le_of a b h, is_true (le_z a b) (le_of a b h).le)
    go (no h) = inr (le_of b a (omega arith), is_false (le_z a b) (λ t. h (le-to a b (record { le = t }))))

-- ---- size
pub abs_is : (z : ℤ) → nat_abs z ≡ up z + down z
abs_is (pos n) = omega arith
abs_is (negsuc n) = omega arith

pub one_side : (z : ℤ) → (up z ≡ 0) ⊎ (down z ≡ 0)
one_side (pos n) = inr refl
one_side (negsuc n) = inl refl

pub abs-sum : (a b : ℤ) → nat_abs (a +ℤ b) ≤ nat_abs a + nat_abs b
abs-sum a b = go (one_side (a +ℤ b))
  where
    go : (up (a +ℤ b) ≡ 0) ⊎ (down (a +ℤ b) ≡ 0) → nat_abs (a +ℤ b) ≤ nat_abs a + nat_abs b
    go (inl h) = omega (arith, abs_is a, abs_is b, abs_is (a +ℤ b), add-law a b)
    go (inr h) = omega (arith, abs_is a, abs_is b, abs_is (a +ℤ b), add-law a b)

-- ---- lifted
-- the natural number that a whole number is with m added
pub record Lifts (m : ℕ) (z : ℤ) : Type 0 where
  pub b : ℕ
  pub is : z +ℤ pos m ≡ pos b
  pub small : b < 2 * m

pub lifts-by : (m : ℕ) (z : ℤ) → nat_abs z < m → Lifts m z
lifts-by m (pos n) h = record { b = n + m; is = refl; small = omega arith }
lifts-by m (negsuc n) h = record { b = m - suc n; is = above-is m (suc n) (omega arith); small = omega arith }

-- and m taken off again
pub lifted-back : (m : ℕ) (z : ℤ) → Lifts m z → sub_ℕ (nat_abs (z +ℤ pos m)) m ≡ z
lifted-back m z l = ap (λ (w : ℤ). sub_ℕ (nat_abs w) m) l.is ∙ sym (sub_is l.b m) ∙ ap (λ (w : ℤ). w -ℤ pos m) (sym l.is) ∙ +ℤ-neg_ℤ_cancel z (pos m)

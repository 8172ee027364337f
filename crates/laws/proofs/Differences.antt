-- The difference of two naturals in ℤ, by which of them is larger. Assumes nothing.
use mathlib.Core.Path.{◌≡◌, refl, sym, ap, ◌∙◌, subst}
use mathlib.Core.Logic.{⊎_elim}
use Prim.Native.Nat.{ℕ, zero, suc, ◌+◌, ◌-◌, ◌<◌, ◌≤◌, zero-le}
use native.Mathlib.Omega.{arith}
use borrow.Author.Tests.{lt-ltb, le-ltb}
use lib.IntN.{ℤ, pos, negsuc, sub_ℕ, ◌+ℤ◌, ◌-ℤ◌}
use Rattle.laws.proofs.Order.{lt-or-ge}

pub below-is : (a b : ℕ) → a < b → sub_ℕ a b ≡ negsuc (b - suc a)
below-is a b h = rw (lt-ltb a b h) refl

pub above-is : (a b : ℕ) → b ≤ a → sub_ℕ a b ≡ pos (a - b)
above-is a b h = rw (le-ltb a b h) refl

-- z is a − b
pub data Minus (a b : ℕ) : ℤ → Type 0 where
  below : a < b → Minus a b (negsuc (b - suc a))
  above : b ≤ a → Minus a b (pos (a - b))

pub minus : (a b : ℕ) → Minus a b (sub_ℕ a b)
minus a b =
    ⊎_elim (λ (h : a < b). subst (Minus a b) (sym (below-is a b h)) (below h)) (λ (h : b ≤ a). subst (Minus a b) (sym (above-is a b h)) (above h))
    (lt-or-ge a b)

-- equal differences
pub minus-same : {a b c d : ℕ} {x y : ℤ} → Minus a b x → Minus c d y → a + d ≡ c + b → x ≡ y
minus-same (below h) (below k) e = ap negsuc (omega arith)
minus-same (below h) (above k) e = absurd (omega arith)
minus-same (above h) (below k) e = absurd (omega arith)
minus-same (above h) (above k) e = ap pos (omega arith)

-- differences add
pub sub-add : (a b c d : ℕ) → sub_ℕ a b +ℤ sub_ℕ c d ≡ sub_ℕ (a + c) (b + d)
sub-add a b c d = go (minus a b) (minus c d) (minus (a + c) (b + d))
  where
    go : {x y z : ℤ} → Minus a b x → Minus c d y → Minus (a + c) (b + d) z → x +ℤ y ≡ z
    go (below h) (below k) (below l) = ap negsuc (omega arith)
    go (below h) (below k) (above l) = absurd (omega arith)
    go (below h) (above k) m = minus-same (minus (c - d) (suc (b - suc a))) m (omega arith)
    go (above h) (below k) m = minus-same (minus (a - b) (suc (d - suc c))) m (omega arith)
    go (above h) (above k) (below l) = absurd (omega arith)
    go (above h) (above k) (above l) = ap pos (omega arith)

-- the difference as ℤ has it
pub sub_is : (a b : ℕ) → pos a -ℤ pos b ≡ sub_ℕ a b
sub_is a zero = ap pos (let e : a + 0 ≡ a - 0 = omega arith in e) ∙ sym (above-is a 0 zero-le)
sub_is a (suc b) = refl

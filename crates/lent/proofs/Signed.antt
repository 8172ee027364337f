-- Signed machine numbers: what fits, and what comes back from its bits. Assumes nothing.
use mathlib.Core.Path.{◌≡◌}
use Prim.Native.Nat.{ℕ, zero, suc, ◌<◌, ◌≤◌, ◌^◌}
use native.Mathlib.Omega.{arith}
use lib.IntN.{ℤ, pos, neg_ℤ, ◌-ℤ◌, +ℤ_idl}
use lib.Signed.{mag}
use mir.Syntax.{Width, w32}
use mir.Val.{SFits, hbits, of_z, to_z}
use mir.Facts.{to_z_pos, to_z-of_z}
use Rattle.laws.proofs.Differences.{Minus, below, above, minus, sub_is}

-- an element of a slice of i32, back from its bits
pub element : (z : ℤ) → mag z < 2 ^ 31 → to_z w32 (of_z w32 z) ≡ z
element z h = to_z-of_z {w = w32} (record { sfits = h })

-- a signed result that is a natural number: it fits, and comes back from its bits
pub sfits_pos : (w : Width) (z : ℤ) (b : ℕ) → z ≡ pos b → b < 2 ^ hbits w → SFits w z
sfits_pos w z b e l = rw e (record { sfits = l })

pub back : (w : Width) (z : ℤ) (b : ℕ) → z ≡ pos b → b < 2 ^ hbits w → to_z w (of_z w z) ≡ pos b
back w z b e l = rw e (to_z_pos w l)

-- how large a natural number is when it is taken from 0
pub mag-minus : (m : ℕ) → mag (pos 0 -ℤ pos m) ≤ m
mag-minus m = rw (+ℤ_idl (neg_ℤ (pos m))) (go m)
  where
    go : (m : ℕ) → mag (neg_ℤ (pos m)) ≤ m
    go zero = omega arith
    go (suc m) = omega arith

-- the difference of two naturals that have a sign's room is no larger than they are
pub mag-below : (a b : ℕ) {m : ℕ} → a < m → b < m → mag (pos a -ℤ pos b) < m
mag-below a b {m} h k = rw (sub_is a b) (go (minus a b))
  where
    go : {z : ℤ} → Minus a b z → mag z < m
    go (below l) = omega arith
    go (above l) = omega arith

-- Laws of signed numbers of the machine: a number turned negative fits and is what it says. Assumes nothing.
use Prim.Native.Nat.{ℕ, zero, suc, ◌≤◌, ◌<◌, ◌^◌}
use mathlib.Core.Path.{◌≡◌, refl}
use mathlib.Core.Bool.{true, false}
use native.Mathlib.Omega.{arith}
use lib.IntN.{ℤ, pos, negsuc, neg_ℤ, nat_abs, ◌-ℤ◌, +ℤ_idl}
use lib.Signed.{lt_z}
use borrow.Author.Tests.{ltb-true}
use mathlib.Core.List.{◌∷◌}
use Rattle.dialogue.specs.Written.{decimal, signed_decimal}
use mir.Syntax.{Width}
use mir.Val.{SFits, hbits}

pub minus-fits : (w : Width) (s : ℕ) → 0 < 2 ^ hbits w → s ≤ 2 ^ hbits w → SFits w (pos 0 -ℤ pos s)
minus-fits w zero z l = record { sfits = z }
minus-fits w (suc s) z l = rw (+ℤ_idl (negsuc s)) (record { sfits = omega arith })

pub zero_minus : (s : ℕ) → pos 0 -ℤ pos s ≡ neg_ℤ (pos s)
zero_minus s = +ℤ_idl (neg_ℤ (pos s))

-- a number below 0 in decimal
pub text-below : (z : ℤ) → lt_z z (pos 0) ≡ true → signed_decimal z ≡ 45 ∷ decimal (nat_abs z)
text-below (pos n) e = absurd (omega (arith, ltb-true n 0 e))
text-below (negsuc n) e = refl

-- and one from 0 on
pub text-from : (z : ℤ) → lt_z z (pos 0) ≡ false → signed_decimal z ≡ decimal (nat_abs z)
text-from (pos n) e = refl
text-from (negsuc n) e = cc

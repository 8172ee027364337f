-- Patterns of binary32 that are a NaN's. Assumes nothing.
use Prim.Native.Nat.{ℕ, ◌<◌, ◌≤◌, ◌%◌, ◌/◌}
use mathlib.Core.Path.{◌≡◌, refl}
use mathlib.Core.Bool.{not}
use native.Mathlib.Omega.{arith}
use lib.Dec.{T}
use lib.Ieee.{nan, binary32, of_bits, of_fields, nan_bits}
use borrow.Author.Tests.{eq-eqb, ne_eqb}

module _ (b : ℕ) where
  -- the exponent's field is all ones, and a digit is not 0
  pub of_nan : b % 0x80000000 / 0x800000 ≡ 255 → 0 < b % 0x800000 → of_bits binary32 b ≡ nan
  unfolding of_bits of_fields
  of_nan e h = rw (e, ne_eqb (b % 0x800000) 0 (λ z. omega arith))

  -- no NaN's
  pub field_below : (b % 0x80000000 / 0x800000 ≡ 255 → ⊥) → T (not (nan_bits binary32 b))
  unfolding nan_bits
  field_below d = rw (ne_eqb (b % 0x80000000 / 0x800000) 255 d) tt

  pub no_digit : b % 0x80000000 / 0x800000 ≡ 255 → b % 0x800000 ≤ 0 → T (not (nan_bits binary32 b))
  unfolding nan_bits
  no_digit e h = rw (eq-eqb (b % 0x80000000 / 0x800000) 255 e, eq-eqb (b % 0x800000) 0 (omega arith)) tt

-- the library's NaN is one
pub is_nan : of_bits binary32 0x7fc00000 ≡ nan
unfolding of_bits
is_nan = refl

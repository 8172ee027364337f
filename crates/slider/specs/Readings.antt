-- How a calibration number or a position is read off its binary32 value: exactly, as a whole number of parts of 1 / d. Definitions only.
use Rattle.std.specs.Prelude.{ℕ, ◌*◌, ◌/◌, ◌%◌, Bool, true, false, ◌&&◌, ◌||◌, leb, eqb, ℤ, pos, neg_ℤ, nat_abs, Float}
use Rattle.std.specs.Int.Signed.{non_neg}
use Rattle.std.specs.Float.{nan, inf, fin}
use Rattle.std.specs.Float.Ieee.{up, down}

-- "low and high, whole, −4,096 to 4,096"; "work, whole, 0 to 4,096"; "the position is k/256, k whole, 0 to 256"
abbrev pub end_limit : ℕ
end_limit = 4096

abbrev pub work_limit : ℕ
work_limit = 4096

abbrev pub grid : ℕ
grid = 256

-- the whole number of size n with a sign, true for negative: "−0.0 counts as 0"
abbrev pub signed : Bool → ℕ → ℤ
signed true n = neg_ℤ (pos n)
signed false n = pos n

-- what a number is read as: `at z`, exactly z / d; or `off`, no such number or not finite
pub data Reading : Type 0 where
  at : ℤ → Reading
  off : Reading

abbrev pub pick : {A : Type 0} → Bool → A → A → A
pick true a b = a
pick false a b = b

-- the reading in parts of 1 / d; a finite number is ± m * up e / down e
unfoldable pub reading : ℕ → Float → Reading
reading d nan = off
reading d (inf s) = off
reading d (fin s m e) = pick (eqb (m * up e * d % down e) 0) (at (signed s (m * up e * d / down e))) off

-- a range: from -limit where `both` signs are allowed, else from 0, to limit
abbrev pub allowed : Bool → ℕ → ℤ → Bool
allowed both limit z = leb (nat_abs z) limit && (both || non_neg z)

unfoldable pub within : Bool → ℕ → Reading → Reading
within both limit off = off
within both limit (at z) = pick (allowed both limit z) (at z) off

-- an end of a Span's travel, a Rate's work, a position
abbrev pub end_of : Float → Reading
end_of x = within true end_limit (reading 1 x)

abbrev pub work_of : Float → Reading
work_of x = within false work_limit (reading 1 x)

abbrev pub position_of : Float → Reading
position_of x = within false grid (reading grid x)

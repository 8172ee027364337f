-- Auxiliary, no part of the meaning: what the private functions give on the way to the answer. The public claim cites none of it. Definitions only.
use Rattle.std.specs.Prelude.{ℕ, ◌+◌, ◌*◌, ◌/◌, ◌%◌, ◌^◌, min, Bool, true, false, not, eqb, Float, Option, None, Some, Result, Ok, Err}
use Rattle.std.specs.Float.{nan, inf, fin}
use Rattle.std.specs.Float.Ieee.{up, down}
use Rattle.slider.specs.declared.Refusal.{Refusal}
use Rattle.slider.specs.declared.Refusal.TheVariants.{Unread}
use Rattle.slider.specs.declared.Split.{Split}
use Rattle.slider.specs.declared.Use.{Use}
use Rattle.slider.specs.declared.Use.TheVariants.{AtMost, AtLeast}
use Rattle.slider.specs.Readings.{signed, Reading, at, off, pick}
use Rattle.slider.specs.Slider.{Outcome, kept}

-- ---- `parts`
-- the size at which a split stops, and the finest grid it is asked for: 1 / 2 ^ 8
abbrev pub cap : ℕ
cap = 8388608

abbrev pub places : ℕ
places = 8

abbrev pub finite_split : Bool → ℕ → Bool → Option Split
finite_split neg whole cut = Some (record { neg = neg; whole = whole; cut = cut })

-- the size in parts of 1 / 2 ^ j, cut to a whole number, and whether something was cut off
unfoldable pub split_of : ℕ → Float → Option Split
split_of j nan = None
split_of j (inf s) = None
split_of j (fin s m e) = finite_split s (min (m * up e * 2 ^ j / down e) cap) (not (eqb (m * up e * 2 ^ j % down e) 0))

-- ---- `on_grid`
abbrev pub is_at : Reading → Bool
is_at (at z) = true
is_at off = false

abbrev pub if_at : Reading → Result Unit Refusal
if_at (at z) = Ok tt
if_at off = Err Unread

-- ---- `limited`
-- the bound of a size, or of one more, with a sign
abbrev pub limited_gives : Bool → ℕ → Bool → Outcome
limited_gives neg whole more = kept (signed neg (pick more (whole + 1) whole))

-- ---- `rounds_up`
abbrev pub rounds_up : Use → Bool
rounds_up AtMost = false
rounds_up AtLeast = true

-- What a slider gives. Its numbers are read as whole numbers of parts (`Readings`); what follows is arithmetic on whole numbers. Definitions only.
use Rattle.std.specs.Prelude.{ℕ, zero, suc, ◌*◌, ◌/◌, leb, ℤ, pos, negsuc, neg_ℤ, nat_abs, ◌+ℤ◌, ◌-ℤ◌, ◌*ℤ◌, Float, Result, Ok, Err}
use Rattle.std.specs.Float.{nan, inf, fin}
use Rattle.std.specs.Float.Ieee.{up, down}
use Rattle.slider.specs.declared.Kind.{Kind}
use Rattle.slider.specs.declared.Kind.TheVariants.{Span, Rate, Fixed}
use Rattle.slider.specs.declared.Use.{Use}
use Rattle.slider.specs.declared.Use.TheVariants.{AtMost, AtLeast}
use Rattle.slider.specs.declared.Refusal.{Refusal}
use Rattle.slider.specs.declared.Refusal.TheVariants.{Unread, AtZero, TooFar}
use Rattle.slider.specs.Readings.{grid, signed, Reading, at, off, pick, end_of, work_of, position_of}

-- ---- the answers
-- "A slider's answer is the bound or the refusal number."
pub data Outcome : Type 0 where
  -- the bound, as its use takes it
  bound : ℤ → Outcome
  -- "a number that is read is not finite or not on its grid or range"
  unread : Outcome
  -- "a Rate at position 0"
  at_zero : Outcome
  -- "the bound lies outside ±100,000"
  too_far : Outcome

-- 01's value, or refusal, for each case of the answer
abbrev pub told : Outcome → Result ℤ Refusal
told (bound z) = Ok z
told unread = Err Unread
told at_zero = Err AtZero
told too_far = Err TooFar

-- 01's number for each refusal
abbrev pub number_of : Refusal → ℕ
number_of Unread = 9
number_of AtZero = 10
number_of TooFar = 11

-- ---- the bound for a value z / d
-- the largest whole number not above z / d
abbrev pub floor : ℤ → ℕ → ℤ
floor (pos n) d = pos (n / d)
floor (negsuc n) d = negsuc (n / d)

-- the smallest whole number not below z / d
abbrev pub ceiling : ℤ → ℕ → ℤ
ceiling z d = neg_ℤ (floor (neg_ℤ z) d)

-- "The bound is the largest whole number not above the value. An "at most" use takes that bound"; as amended by A2, "an "at least" use takes the smallest whole number not below the value, negated", on the turned-round pair
abbrev pub taken : Use → ℤ → ℕ → ℤ
taken AtMost z d = floor z d
taken AtLeast z d = neg_ℤ (ceiling z d)

-- "11, the bound lies outside ±100,000"; A2: "Refusal 11 looks at the number so rounded"
abbrev pub bound_limit : ℕ
bound_limit = 100000

abbrev pub kept : ℤ → Outcome
kept z = pick (leb (nat_abs z) bound_limit) (bound z) too_far

abbrev pub bounded : Use → ℤ → ℕ → Outcome
bounded u z d = kept (taken u z d)

-- ---- the kinds
-- "Value: low + (high − low) × position", as "(256·low + (high − low)·k)/256"
unfoldable pub span_gives : Use → Reading → Reading → Reading → Outcome
span_gives u off high k = unread
span_gives u (at low) off k = unread
span_gives u (at low) (at high) off = unread
span_gives u (at low) (at high) (at k) = bounded u (pos grid *ℤ low +ℤ (high -ℤ low) *ℤ k) grid

-- "Value: work ÷ position", as "256·work/k"; a position is not below 0
unfoldable pub rate_gives : Use → Reading → Reading → Outcome
rate_gives u off k = unread
rate_gives u (at work) off = unread
rate_gives u (at work) (at (pos zero)) = at_zero
rate_gives u (at work) (at (pos (suc k))) = bounded u (pos grid *ℤ work) (suc k)
rate_gives u (at work) (at (negsuc k)) = unread

-- "the value itself": any finite number, ± m * up e / down e
unfoldable pub fixed_gives : Use → Float → Outcome
fixed_gives u nan = unread
fixed_gives u (inf s) = unread
fixed_gives u (fin s m e) = bounded u (signed s (m * up e)) (down e)

-- a Fixed does not read its position
unfoldable pub slider_gives : Kind → Float → Use → Outcome
slider_gives (Span travel) position u = span_gives u (end_of travel.low) (end_of travel.high) (position_of position)
slider_gives (Rate work) position u = rate_gives u (work_of work) (position_of position)
slider_gives (Fixed value) position u = fixed_gives u value

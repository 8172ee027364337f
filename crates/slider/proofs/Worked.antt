-- Claim: the worked cases of 01 and of A2, and cases at the edges, as one table. Assumes nothing.
use Rattle.std.specs.Prelude.{Result, Ok, Err}
use mathlib.Core.Path.{◌≡◌, refl}
use mathlib.Core.List.{List, [], ◌∷◌, map}
use Prim.Native.Nat.{ℕ}
use mathlib.Core.Bool.{true, false}
use lib.IntN.{ℤ, pos, negsuc}
use lib.Ieee.{Float, nan, inf, fin}
use Rattle.slider.specs.declared.Kind.{Kind}
use Rattle.slider.specs.declared.Kind.TheVariants.{Span, Rate, Fixed}
use Rattle.slider.specs.declared.Use.{Use}
use Rattle.slider.specs.declared.Use.TheVariants.{AtMost, AtLeast}
use Rattle.slider.specs.declared.Refusal.{Refusal}
use Rattle.slider.specs.declared.Refusal.TheVariants.{Unread, AtZero, TooFar}
use Rattle.slider.specs.Readings.{reading, within}
use Rattle.slider.specs.Slider.{told, span_gives, rate_gives, fixed_gives, slider_gives}

-- ---- numbers as binary32 holds them: m times, or m over, a power of 2, with an odd m
abbrev times : ℕ → ℕ → Float
times m e = fin false m (pos e)

abbrev over : ℕ → ℕ → Float
over m e = fin false m (negsuc e)

abbrev minus : ℕ → ℕ → Float
minus m e = fin true m (pos e)

abbrev minus-over : ℕ → ℕ → Float
minus-over m e = fin true m (negsuc e)

abbrev minus-zero : Float
minus-zero = minus 0 0

abbrev quarter : Float
quarter = over 1 1

abbrev half : Float
half = over 1 0

abbrev three_quarters : Float
three_quarters = over 3 1

-- 1 / 256, on the grid of positions, and 1 / 512, off it
abbrev one-part : Float
one-part = over 1 7

abbrev half-part : Float
half-part = over 1 8

-- ---- the table
pub record Case : Type 0 where
  pub kind : Kind
  pub position : Float
  pub used : Use
  pub answer : Result ℤ Refusal

abbrev span-case : Float → Float → Float → Use → Result ℤ Refusal → Case
span-case low high position used answer = record { kind = Span (record { low = low; high = high }); position = position; used = used; answer = answer }

abbrev rate-case : Float → Float → Use → Result ℤ Refusal → Case
rate-case work position used answer = record { kind = Rate work; position = position; used = used; answer = answer }

-- a Fixed is asked at a position that is no number, since it does not read it
abbrev fixed-case : Float → Use → Result ℤ Refusal → Case
fixed-case value used answer = record { kind = Fixed value; position = nan; used = used; answer = answer }

abbrev pub cases : List Case
cases =
    -- 01's own, "at most" cases since A2
    span-case (times 5 1) (times 5 2) quarter AtMost (Ok (pos 12))
    ∷ span-case (minus 5 1) (minus 5 0) half AtMost (Ok (negsuc 7))
    ∷ rate-case (times 15 1) half AtMost (Ok (pos 60))
    ∷ rate-case (times 7 0) three_quarters AtMost (Ok (pos 9))
    ∷ rate-case (times 7 0) (times 0 0) AtMost (Err AtZero)
    ∷ rate-case (times 195 1) one-part AtMost (Ok (pos 99840))
    ∷ rate-case (times 391 0) one-part AtMost (Err TooFar)
    ∷ fixed-case (minus-over 5 0) AtMost (Ok (negsuc 2))
    -- A2's own, then a Span, both signs of each, whole values, and the ends
    ∷ fixed-case (over 25 0) AtLeast (Ok (negsuc 12))
    ∷ rate-case (times 7 0) three_quarters AtLeast (Ok (negsuc 9))
    ∷ span-case (times 5 1) (times 5 2) quarter AtLeast (Ok (negsuc 12))
    ∷ span-case (minus 5 1) (minus 5 0) half AtLeast (Ok (pos 7))
    ∷ fixed-case (minus-over 5 0) AtLeast (Ok (pos 2))
    ∷ fixed-case (minus-over 1 0) AtLeast (Ok (pos 0))
    ∷ fixed-case (minus 1 1) AtLeast (Ok (pos 2))
    ∷ rate-case (times 15 1) half AtLeast (Ok (negsuc 59))
    ∷ fixed-case (over 200001 0) AtMost (Ok (pos 100000))
    ∷ fixed-case (over 200001 0) AtLeast (Err TooFar)
    ∷ fixed-case (minus-over 200001 0) AtMost (Err TooFar)
    ∷ fixed-case (minus-over 200001 0) AtLeast (Ok (pos 100000))
    ∷ fixed-case (times 3125 5) AtLeast (Ok (negsuc 99999))
    ∷ fixed-case (times 1 127) AtLeast (Err TooFar)
    -- -0.0, the order of refusals, the grids, the ranges, what is not finite, a subnormal
    ∷ span-case minus-zero (times 5 2) minus-zero AtMost (Ok (pos 0))
    ∷ rate-case minus-zero half AtMost (Ok (pos 0))
    ∷ rate-case (times 7 0) minus-zero AtMost (Err AtZero)
    ∷ rate-case (over 5 0) (times 0 0) AtMost (Err Unread)
    ∷ span-case (times 5 1) (times 5 2) half-part AtMost (Err Unread)
    ∷ span-case (over 5 0) (times 5 2) quarter AtMost (Err Unread)
    ∷ span-case (times 1 12) (minus 1 12) (times 1 0) AtMost (Ok (negsuc 4095))
    ∷ span-case (times 4097 0) (times 5 2) quarter AtMost (Err Unread)
    ∷ rate-case (minus 1 0) half AtMost (Err Unread)
    ∷ rate-case (times 7 0) nan AtMost (Err Unread)
    ∷ rate-case (times 7 0) minus-zero AtLeast (Err AtZero)
    ∷ fixed-case nan AtMost (Err Unread)
    ∷ fixed-case nan AtLeast (Err Unread)
    ∷ fixed-case (inf true) AtMost (Err Unread)
    ∷ fixed-case (minus-over 1 148) AtMost (Ok (negsuc 0))
    ∷ fixed-case (over 1 148) AtMost (Ok (pos 0))
    ∷ fixed-case (minus-over 1 148) AtLeast (Ok (pos 0))
    ∷ fixed-case (over 1 148) AtLeast (Ok (negsuc 0))
    ∷ []

-- Each case of the table has the answer that the contract of `slide` gives it.
pub worked-cases : map (λ (c : Case). told (slider_gives c.kind c.position c.used)) cases ≡ map (λ (c : Case). c.answer) cases
unfolding slider_gives span_gives rate_gives fixed_gives within reading
worked-cases = refl

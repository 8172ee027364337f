-- Claim: "Refusals, in order: 9, a number that is read is not finite or not on its grid or range; 10, a Rate at position 0; 11, the bound lies outside ±100,000." Assumes nothing.
use mathlib.Core.Path.{◌≡◌, refl, sym, subst}
use Prim.Native.Nat.{ℕ, zero, suc, ◌*◌, ◌<◌}
use native.Mathlib.Nat.{zero-lt-suc}
use mathlib.Core.Bool.{Bool, true, false, ◌&&◌}
use lib.Dec.{T, lit<}
use lib.IntN.{ℤ, pos, negsuc, nat_abs, ◌+ℤ◌, ◌-ℤ◌, ◌*ℤ◌}
use lib.Ieee.{Float, nan, inf, fin, up, down}
use lib.Ieee.Fits.{down_pos}
use Rattle.slider.specs.declared.Kind.{Kind}
use Rattle.slider.specs.declared.Kind.TheVariants.{Span, Rate, Fixed}
use Rattle.slider.specs.declared.Use.{Use}
use Rattle.slider.specs.Readings.{grid, signed, Reading, at, off, end_of, work_of, position_of}
use Rattle.slider.specs.Slider.{Outcome, unread, at_zero, bounded, span_gives, rate_gives, fixed_gives, slider_gives}
use Rattle.slider.specs.Steps.{is_at}
use Rattle.slider.proofs.Readings.{position-not-below}

-- ---- whether 9 applies, and whether 10 does, each by itself
is_finite : Float → Bool
is_finite nan = false
is_finite (inf s) = false
is_finite (fin s m e) = true

pub all_read : Kind → Float → Bool
all_read (Span travel) position = is_at (end_of travel.low) && (is_at (end_of travel.high) && is_at (position_of position))
all_read (Rate work) position = is_at (work_of work) && is_at (position_of position)
all_read (Fixed value) position = is_finite value

is_zero : Reading → Bool
is_zero (at (pos zero)) = true
is_zero (at (pos (suc k))) = false
is_zero (at (negsuc k)) = false
is_zero off = false

pub rate_at_zero : Kind → Float → Bool
rate_at_zero (Span travel) position = false
rate_at_zero (Rate work) position = is_zero (position_of position)
rate_at_zero (Fixed value) position = false

-- ---- the value as a fraction, of use where all is read
whole_of : Reading → ℤ
whole_of (at z) = z
whole_of off = pos 0

pub numerator : Kind → Float → ℤ
numerator (Span travel) position =
    pos grid *ℤ whole_of (end_of travel.low) +ℤ (whole_of (end_of travel.high) -ℤ whole_of (end_of travel.low)) *ℤ whole_of (position_of position)
numerator (Rate work) position = pos grid *ℤ whole_of (work_of work)
numerator (Fixed nan) position = pos 0
numerator (Fixed (inf s)) position = pos 0
numerator (Fixed (fin s m e)) position = signed s (m * up e)

pub denominator : Kind → Float → ℕ
denominator (Span travel) position = grid
denominator (Rate work) position = nat_abs (whole_of (position_of position))
denominator (Fixed nan) position = 1
denominator (Fixed (inf s)) position = 1
denominator (Fixed (fin s m e)) position = down e

-- where neither refusal applies, the fraction has a denominator
pub denominator-pos : (kind : Kind) (position : Float) → all_read kind position ≡ true → rate_at_zero kind position ≡ false → 0 < denominator kind position
unfolding all_read rate_at_zero is_zero whole_of denominator
denominator-pos (Span travel) position a z = lit< tt
denominator-pos (Rate work) position a z = go (is_at (work_of work)) (position_of position) a z
  where
    go : (w : Bool) (k : Reading) → (w && is_at k) ≡ true → is_zero k ≡ false → 0 < nat_abs (whole_of k)
    go true off a z = absurd (subst T (sym a) tt)
    go false off a z = absurd (subst T (sym a) tt)
    go w (at (pos zero)) a z = absurd (subst T z tt)
    go w (at (pos (suc k))) a z = zero-lt-suc k
    go w (at (negsuc k)) a z = zero-lt-suc k
denominator-pos (Fixed nan) position a z = lit< tt
denominator-pos (Fixed (inf s)) position a z = lit< tt
denominator-pos (Fixed (fin s m e)) position a z = down_pos e

-- ---- the order
-- 9 unless all is read, whatever else applies; then 10 for a Rate at 0; then the rest
abbrev pub in_order : Bool → Bool → Outcome → Outcome
in_order false atzero rest = unread
in_order true true rest = at_zero
in_order true false rest = rest

-- Every answer of every kind is 9, else 10, else the bound for its value, which is 11 exactly where the bound, rounded as its use takes it, lies outside its limit (`kept`).
pub refusals-in-order : (kind : Kind) (position : Float) (used : Use)
    → slider_gives kind position used ≡ in_order (all_read kind position) (rate_at_zero kind position) (bounded used (numerator kind position) (denominator kind position))
unfolding all_read rate_at_zero is_finite is_zero whole_of numerator denominator slider_gives span_gives rate_gives fixed_gives
refusals-in-order (Span travel) position used = go (end_of travel.low) (end_of travel.high) (position_of position)
  where
    go : (l h k : Reading) → span_gives used l h k ≡ in_order (is_at l && (is_at h && is_at k)) false (bounded used (pos grid *ℤ whole_of l +ℤ (whole_of h -ℤ whole_of l) *ℤ whole_of k) grid)
    go off h k = refl
    go (at l) off k = refl
    go (at l) (at h) off = refl
    go (at l) (at h) (at k) = refl
refusals-in-order (Rate work) position used = go (work_of work) (position_of position) refl
  where
    go : (w k : Reading) → position_of position ≡ k → rate_gives used w k ≡ in_order (is_at w && is_at k) (is_zero k) (bounded used (pos grid *ℤ whole_of w) (nat_abs (whole_of k)))
    go off k e = refl
    go (at w) off e = refl
    go (at w) (at (pos zero)) e = refl
    go (at w) (at (pos (suc k))) e = refl
    go (at w) (at (negsuc k)) e = absurd (position-not-below position k e)
refusals-in-order (Fixed nan) position used = refl
refusals-in-order (Fixed (inf s)) position used = refl
refusals-in-order (Fixed (fin s m e)) position used = refl

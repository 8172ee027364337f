-- Claims of the definitions that the contract of `slide` cites: one answer, the floor and the ceiling, the formulas of 01. Others: `Numbers`, `Refusals`, `Waits`, `Worked`. Assumes nothing.
use Rattle.std.specs.Prelude.{Result}
use mathlib.Core.Path.{◌≡◌, sym, ap, ◌∙◌}
use Prim.Native.Nat.{ℕ, suc, ◌<◌}
use lib.IntN.{ℤ, pos, ◌+ℤ◌, ◌-ℤ◌, ◌*ℤ◌}
use lib.Signed.{◌≤ℤ◌, ≤ℤ_refl}
use lib.Ieee.{Float, binary32, add, sub, mul, div}
use Rattle.slider.specs.declared.Travel.{Travel}
use Rattle.slider.specs.declared.Kind.{Kind}
use Rattle.slider.specs.declared.Kind.TheVariants.{Span, Rate}
use Rattle.slider.specs.declared.Use.{Use}
use Rattle.slider.specs.declared.Refusal.{Refusal}
use Rattle.slider.specs.Readings.{Reading, at, end_of, work_of, position_of}
use Rattle.slider.specs.Slider.{told, floor, ceiling, bounded, span_gives, rate_gives, fixed_gives, slider_gives}
use Rattle.slider.proofs.Floor.{floor-below, floor-above}
use Rattle.slider.proofs.Ceiling.{ceiling-above, ceiling-below}
use Rattle.slider.proofs.Spans.{span-taken}
use Rattle.slider.proofs.Rates.{rate-taken}

-- ---- one answer
-- The contract of `slide` is an equation with a total function of its input, so two answers it allows for one input are the same.
pub one_answer : (kind : Kind) (position : Float) (used : Use) (a b : Result ℤ Refusal) → a ≡ told (slider_gives kind position used) → b ≡ told (slider_gives kind position used) → a ≡ b
one_answer kind position used a b p q = p ∙ sym q

-- ---- the floor and the ceiling
-- "The largest whole number not above the value": the floor of z / d is not above z / d, and no whole number that is not above it is larger.
pub floor-largest : (z : ℤ) (d : ℕ) → 0 < d → ((floor z d *ℤ pos d) ≤ℤ z) × ((q : ℤ) → (q *ℤ pos d) ≤ℤ z → q ≤ℤ floor z d)
floor-largest z d D = (floor-below z d (floor z d) D (≤ℤ_refl (floor z d)), λ q h. floor-above z d q D h)

-- "The smallest whole number not below the value": the ceiling of z / d is not below z / d, and no whole number that is not below it is smaller.
pub ceiling-smallest : (z : ℤ) (d : ℕ) → 0 < d → (z ≤ℤ (ceiling z d *ℤ pos d)) × ((q : ℤ) → z ≤ℤ (q *ℤ pos d) → ceiling z d ≤ℤ q)
ceiling-smallest z d D = (ceiling-above z d (ceiling z d) D (≤ℤ_refl (ceiling z d)), λ q h. ceiling-below z d q D h)

-- ---- "the whole-number answer is exact for every accepted Span and Rate"
-- An accepted Span gives what its use takes of (256·low + (high − low)·k)/256, the floor or the negated ceiling, and so does the value as binary32 works it out, three roundings in 01's order.
pub span-exact : (travel : Travel) (p : Float) (used : Use) (low high k : ℤ) → end_of travel.low ≡ at low → end_of travel.high ≡ at high → position_of p ≡ at k
    → (slider_gives (Span travel) p used ≡ bounded used (pos 256 *ℤ low +ℤ (high -ℤ low) *ℤ k) 256)
    × (fixed_gives used (add binary32 travel.low (mul binary32 (sub binary32 travel.high travel.low) p)) ≡ bounded used (pos 256 *ℤ low +ℤ (high -ℤ low) *ℤ k) 256)
unfolding slider_gives span_gives
span-exact travel p used low high k el eh ek = (
  ap (λ (r : Reading). span_gives used r (end_of travel.high) (position_of p)) el
      ∙ ap (λ (r : Reading). span_gives used (at low) r (position_of p)) eh
      ∙ ap (λ (r : Reading). span_gives used (at low) (at high) r) ek,
  span-taken used travel.low travel.high p low high k el eh ek,
)

-- An accepted Rate past position 0 gives what its use takes of 256·work/k, and so does the quotient as binary32 rounds it.
pub rate-exact : (work p : Float) (used : Use) (w : ℤ) (k : ℕ) → work_of work ≡ at w → position_of p ≡ at (pos (suc k))
    → (slider_gives (Rate work) p used ≡ bounded used (pos 256 *ℤ w) (suc k))
    × (fixed_gives used (div binary32 work p) ≡ bounded used (pos 256 *ℤ w) (suc k))
unfolding slider_gives rate_gives
rate-exact work p used w k ew ek = (
  ap (λ (r : Reading). rate_gives used r (position_of p)) ew ∙ ap (λ (r : Reading). rate_gives used (at w) r) ek,
  rate-taken used work p w k ew ek,
)

-- The ceiling of a fraction is the negative of its negative's floor: what holds of the floor holds of it, turned round. Assumes nothing.
use mathlib.Core.Path.{◌≡◌, sym, ap, ◌∙◌, subst}
use Prim.Native.Nat.{ℕ, ◌<◌}
use mathlib.Core.Bool.{Bool, not}
use lib.IntN.{ℤ, pos, neg_ℤ, ◌*ℤ◌, neg_ℤ-neg_ℤ}
use lib.Signed.{◌≤ℤ◌}
use Rattle.slider.specs.declared.Use.TheVariants.{AtLeast}
use Rattle.slider.specs.Readings.{signed}
use Rattle.slider.specs.Slider.{floor, ceiling, taken}
use Rattle.slider.proofs.Whole.{neg-signed, neg-times, neg-le-neg, neg-le-flip, neg-le-cancel}
use Rattle.slider.proofs.Floor.{floor-below, floor-above}

-- ---- what "at least" takes, −⌈z / d⌉, is ⌊−z / d⌋
pub least-floor : (s : Bool) (n d : ℕ) → taken AtLeast (signed s n) d ≡ floor (signed (not s) n) d
least-floor s n d = neg_ℤ-neg_ℤ (floor (neg_ℤ (signed s n)) d) ∙ ap (λ (z : ℤ). floor z d) (neg-signed s n)

-- ---- the smallest whole number not below the fraction: q is not below it exactly when q is not below the ceiling
pub ceiling-above : (z : ℤ) (d : ℕ) (q : ℤ) → 0 < d → ceiling z d ≤ℤ q → z ≤ℤ (q *ℤ pos d)
ceiling-above z d q D h =
    neg-le-cancel (q *ℤ pos d) z
    (subst (λ (y : ℤ). y ≤ℤ neg_ℤ z) (neg-times q d) (floor-below (neg_ℤ z) d (neg_ℤ q) D (neg-le-flip (floor (neg_ℤ z) d) q h)))

pub ceiling-below : (z : ℤ) (d : ℕ) (q : ℤ) → 0 < d → z ≤ℤ (q *ℤ pos d) → ceiling z d ≤ℤ q
ceiling-below z d q D h =
    neg-le-flip q (floor (neg_ℤ z) d)
    (floor-above (neg_ℤ z) d (neg_ℤ q) D (subst (λ (y : ℤ). y ≤ℤ neg_ℤ z) (sym (neg-times q d)) (neg-le-neg z (q *ℤ pos d) h)))

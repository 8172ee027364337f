-- Claim: what the rounding is for (A2). A day in whole minutes keeps the bound exactly when it keeps the value, and a least wait is less than a minute longer than the value. Assumes nothing.
use mathlib.Core.Path.{◌≡◌, refl, sym, ap, ◌∙◌, subst}
use mathlib.Core.Logic.{◌↔◌}
use Prim.Native.Nat.{ℕ, zero, suc, ◌<◌}
use native.Mathlib.Nat.{lt-suc_self}
use mathlib.Core.Bool.{Bool, true, false, not}
use lib.Dec.{T, leb, lt→ltb}
use lib.IntN.{ℤ, pos, negsuc, neg_ℤ, nat_abs, pred_ℤ, ◌+ℤ◌, ◌-ℤ◌, ◌*ℤ◌, +ℤ_comm, neg_ℤ-+ℤ, neg_ℤ-neg_ℤ, -ℤ_one}
use lib.Signed.{lt_z, ◌≤ℤ◌, ◌<ℤ◌, lt_z_yes, lt_z_no, clash_ℤ}
use lib.Ieee.{Float}
use Rattle.slider.specs.declared.Kind.{Kind}
use Rattle.slider.specs.declared.Use.{Use}
use Rattle.slider.specs.declared.Use.TheVariants.{AtMost, AtLeast}
use Rattle.slider.specs.Readings.{pick}
use Rattle.slider.specs.Slider.{Outcome, bound, unread, at_zero, too_far, ceiling, taken, bound_limit, kept, slider_gives}
use Rattle.slider.proofs.Whole.{neg-le-neg, neg-le-cancel}
use Rattle.slider.proofs.Floor.{floor-below, floor-above}
use Rattle.slider.proofs.Ceiling.{ceiling-above, ceiling-below}
use Rattle.slider.proofs.Claims.{ceiling-smallest}
use Rattle.slider.proofs.Refusals.{all_read, rate_at_zero, numerator, denominator, denominator-pos, in_order, refusals-in-order}

-- ---- a bound that is given
IsBound : Outcome → ℤ → Type 0
IsBound (bound z) b = z ≡ b
IsBound unread b = ⊥
IsBound at_zero b = ⊥
IsBound too_far b = ⊥

-- no refusal applies, and the bound is what the use takes of the value
record Given (kind : Kind) (position : Float) (used : Use) (b : ℤ) : Type 0 where
  pub some : 0 < denominator kind position
  pub is : taken used (numerator kind position) (denominator kind position) ≡ b

kept-is : (z b : ℤ) → IsBound (kept z) b → z ≡ b
unfolding IsBound
kept-is z b h = go (leb (nat_abs z) bound_limit) h
  where
    go : (t : Bool) → IsBound (pick t (bound z) too_far) b → z ≡ b
    go true h = h
    go false h = absurd h

given : (kind : Kind) (position : Float) (used : Use) (b : ℤ) → slider_gives kind position used ≡ bound b → Given kind position used b
unfolding IsBound
given kind position used b h =
    go (all_read kind position) (rate_at_zero kind position) refl refl (subst (λ (o : Outcome). IsBound o b) (sym h ∙ refusals-in-order kind position used) refl)
  where
    z : ℤ
    z = taken used (numerator kind position) (denominator kind position)

    go : (a r : Bool) → all_read kind position ≡ a → rate_at_zero kind position ≡ r → IsBound (in_order a r (kept z)) b → Given kind position used b
    go false r p q i = absurd i
    go true true p q i = absurd i
    go true false p q i = record { some = denominator-pos kind position p q; is = kept-is z b i }

-- ---- the days that keep it
-- what the times x and y of an alternative (x, y, b) owe a value v, which is z / d: x - y ≤ v as "at most"; as "at least", of the pair turned round, y - x ≥ v
pub KeepsValue : Use → ℤ → ℤ → ℤ → ℕ → Type 0
KeepsValue AtMost x y z d = ((x -ℤ y) *ℤ pos d) ≤ℤ z
KeepsValue AtLeast x y z d = z ≤ℤ ((y -ℤ x) *ℤ pos d)

turned : (x y : ℤ) → neg_ℤ (x -ℤ y) ≡ y -ℤ x
turned x y = neg_ℤ-+ℤ x (neg_ℤ y) ∙ ap (λ (k : ℤ). neg_ℤ x +ℤ k) (neg_ℤ-neg_ℤ y) ∙ +ℤ_comm (neg_ℤ x) y

-- "At most": a whole number is not above v exactly when it is not above the floor. "At least": a wait y - x is not below v exactly when it is not below the ceiling, and x - y is its negative.
keeps : (u : Use) (x y z : ℤ) (d : ℕ) → 0 < d → ((x -ℤ y) ≤ℤ taken u z d) ↔ KeepsValue u x y z d
unfolding KeepsValue
keeps AtMost x y z d D = (floor-below z d (x -ℤ y) D, floor-above z d (x -ℤ y) D)
keeps AtLeast x y z d D = (
  λ h. ceiling-above z d (y -ℤ x) D (neg-le-cancel (y -ℤ x) c (subst (λ (k : ℤ). k ≤ℤ neg_ℤ c) (sym (turned y x)) h)),
  λ h. subst (λ (k : ℤ). k ≤ℤ neg_ℤ c) (turned y x) (neg-le-neg c (y -ℤ x) (ceiling-below z d (y -ℤ x) D h)),
)
  where
    c : ℤ
    c = ceiling z d

-- Times in whole minutes keep the bound that a slider gives exactly when they keep its value. So a day planned with an "at least" bound never waits less than the value asked, and no day that waits enough is lost.
pub bound-keeps : (kind : Kind) (position : Float) (used : Use) (b : ℤ) → slider_gives kind position used ≡ bound b → (x y : ℤ)
    → ((x -ℤ y) ≤ℤ b) ↔ KeepsValue used x y (numerator kind position) (denominator kind position)
bound-keeps kind position used b h x y =
    let g = given kind position used b h in
    subst (λ (k : ℤ). ((x -ℤ y) ≤ℤ k) ↔ KeepsValue used x y (numerator kind position) (denominator kind position)) g.is
    (keeps used x y (numerator kind position) (denominator kind position) g.some)

-- ---- the least wait
pred_lt : (z : ℤ) → T (lt_z (pred_ℤ z) z)
pred_lt (pos zero) = tt
pred_lt (pos (suc n)) = lt→ltb n (suc n) (lt-suc_self n)
pred_lt (negsuc n) = lt→ltb n (suc n) (lt-suc_self n)

-- A minute less than the ceiling is below the value: if it were not, it would be no smaller than the ceiling.
under-ceiling : (z : ℤ) (d : ℕ) → 0 < d → ((ceiling z d -ℤ pos 1) *ℤ pos d) <ℤ z
under-ceiling z d D = go (lt_z (less *ℤ pos d) z) lt_z_yes lt_z_no
  where
    less : ℤ
    less = ceiling z d -ℤ pos 1

    smaller : less <ℤ ceiling z d
    smaller = subst (λ (k : ℤ). k <ℤ ceiling z d) (sym (-ℤ_one (ceiling z d))) (lt_z_yes (pred_lt (ceiling z d)))

    go : (t : Bool) → (T t → (less *ℤ pos d) <ℤ z) → (T (not t) → z ≤ℤ (less *ℤ pos d)) → (less *ℤ pos d) <ℤ z
    go true y n = y tt
    go false y n = clash_ℤ smaller (ceiling-below z d less D (n tt))

-- Where an "at least" use gives the bound b, the wait is -b minutes: it is not below the value asked, and a wait one minute shorter would be.
pub least-wait : (kind : Kind) (position : Float) (b : ℤ) → slider_gives kind position AtLeast ≡ bound b
    → (numerator kind position ≤ℤ (neg_ℤ b *ℤ pos (denominator kind position))) × (((neg_ℤ b -ℤ pos 1) *ℤ pos (denominator kind position)) <ℤ numerator kind position)
least-wait kind position b h =
    let g = given kind position AtLeast b h in
    let z = numerator kind position in
    let d = denominator kind position in
    subst (λ (w : ℤ). (z ≤ℤ (w *ℤ pos d)) × (((w -ℤ pos 1) *ℤ pos d) <ℤ z)) (sym (neg_ℤ-neg_ℤ (ceiling z d)) ∙ ap neg_ℤ g.is)
    ((ceiling-smallest z d g.some).0, under-ceiling z d g.some)

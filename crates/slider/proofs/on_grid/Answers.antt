-- `slider::on_grid` meets its contract. Assumes nothing.
use mathlib.Core.Path.{◌≡◌, refl, sym, ap, ◌∙◌}
use mathlib.Core.Bool.{Bool, true, false, not, ◌||◌, ◌&&◌}
use native.Mathlib.Omega.{arith}
use lib.Dec.{ltb}
use borrow.Author.Tests.{lt-ltb, le-ltb}
use Rattle.std.specs.Prelude.{None, Some}
use Rattle.std.proofs.lemmas.Result.{err_from_is_err_and}
use Rattle.slider.specs.declared.Refusal.TheVariants.{Unread}
use Rattle.slider.specs.Steps.{split_of}
use Rattle.slider.proofs.Grid.{is_below, is_off, refused_if, grid-split, no-parts}
use Rattle.slider.proofs.on_grid.Goals as goal
use Rattle.slider.proofs.on_grid.Goals.{then-not-both, else-not-both, then-p, else-p, then-p-2-via-then-p-2, then-p-2-via-else-p-2+then-limit-p, then-p-2-via-else-p-2+else-limit-p+then-below}

-- the three tests, one after another
off-cut : (cut far below : Bool) → cut ≡ true → (cut || (far || below)) ≡ true
off-cut cut far below h = ap (λ (t : Bool). t || (far || below)) h

off-far : (cut far below : Bool) → cut ≡ false → far ≡ true → (cut || (far || below)) ≡ true
off-far cut far below h k = ap (λ (t : Bool). t || (far || below)) h ∙ ap (λ (t : Bool). t || below) k

off-below : (cut far below : Bool) {t : Bool} → cut ≡ false → far ≡ false → below ≡ t → (cut || (far || below)) ≡ t
off-below cut far below h k b = ap (λ (t : Bool). t || (far || below)) h ∙ ap (λ (t : Bool). t || below) k ∙ b

pub returns-in_err-p : goal.returns-in_err-p
returns-in_err-p c =
    let a = c.args in
    let none : split_of a.j a.x ≡ None = grind arith in
    let e = err_from_is_err_and c.from_residual.result c.from_residual.ensures.1 in
    let unread : c.in_err-p.field-0.0 ≡ Unread = grind arith in
    rw (e.1, e.2, unread) (sym (no-parts a.both a.limit a.j a.x none))

pub returns-then-p-2 : goal.returns-then-p-2
returns-then-p-2 c =
    let a = c.args in
    let p = c.in_ok-p.p in
    let parts_are : split_of a.j a.x ≡ Some p = grind arith in
    let signed_is : c.if-not-both.value ≡ (not a.both && p.neg) = elim c.if-not-both.branch [
      | then-not-both w ↦ rw w.if-not-both.true w.value-is
      | else-not-both w ↦ rw w.if-not-both.false (w.value-is ∙ rw w.if-not-both.false refl)
    ] in
    let below_is : c.if-p.below ≡ is_below a.both p = rw (← signed_is) (elim c.if-p.branch [
      | then-p w ↦ rw w.if-p.true w.below-is
      | else-p w ↦ rw w.if-p.false (w.below-is ∙ w.if-p.false)
    ]) in
    let off : is_off a.both a.limit p ≡ true = elim c.then-p-2.branch [
      | then-p-2-via-then-p-2 w ↦ off-cut p.cut (ltb a.limit p.whole) (is_below a.both p) w.if-p-2.true
      | then-p-2-via-else-p-2+then-limit-p w ↦ off-far _ _ _ w.if-p-2.false (lt-ltb a.limit p.whole w.if-limit-p.true)
      | then-p-2-via-else-p-2+else-limit-p+then-below w ↦ off-below _ _ _ w.if-p-2.false (le-ltb a.limit p.whole w.if-limit-p.false) (sym below_is ∙ w.if-below.true)
    ] in
    ap refused_if (sym off) ∙ sym (grid-split a.both a.limit a.j a.x p c.requires.1 parts_are)

pub returns : goal.returns
returns c =
    let a = c.args in
    let p = c.in_ok-p.p in
    let parts_are : split_of a.j a.x ≡ Some p = grind arith in
    let signed_is : c.if-not-both.value ≡ (not a.both && p.neg) = elim c.if-not-both.branch [
      | then-not-both w ↦ rw w.if-not-both.true w.value-is
      | else-not-both w ↦ rw w.if-not-both.false (w.value-is ∙ rw w.if-not-both.false refl)
    ] in
    let below_is : c.if-p.below ≡ is_below a.both p = rw (← signed_is) (elim c.if-p.branch [
      | then-p w ↦ rw w.if-p.true w.below-is
      | else-p w ↦ rw w.if-p.false (w.below-is ∙ w.if-p.false)
    ]) in
    let on : is_off a.both a.limit p ≡ false = off-below _ _ _ c.if-p-2.false (le-ltb a.limit p.whole c.if-limit-p.false) (sym below_is ∙ c.if-below.false) in
    ap refused_if (sym on) ∙ sym (grid-split a.both a.limit a.j a.x p c.requires.1 parts_are)

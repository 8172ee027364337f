-- `slider::bound_of` meets its contract. Assumes nothing.
use mathlib.Core.Path.{◌≡◌, refl, sym, ap, ◌∙◌}
use mathlib.Core.Bool.{Bool, not, beq, ◌&&◌}
use native.Mathlib.Omega.{arith}
use Rattle.std.specs.Prelude.{None, Some}
use Rattle.std.proofs.lemmas.Result.{err_from_is_err_and}
use denote.Enum.Bare.{sameb}
use Rattle.slider.specs.contracts.Use.{the_type}
use Rattle.slider.specs.declared.Use.{Use}
use Rattle.slider.specs.declared.Use.TheVariants.{AtMost, AtLeast}
use Rattle.slider.specs.declared.Refusal.TheVariants.{Unread}
use Rattle.slider.specs.Slider.{told}
use Rattle.slider.specs.Steps.{split_of, rounds_up, limited_gives}
use Rattle.slider.proofs.Bounds.{parts_give, split-gives, no-parts-unread, whole_le}
use Rattle.slider.proofs.bound_of.Goals as goal
use Rattle.slider.proofs.bound_of.Goals.{then-p, else-p}

up-is : (u : Use) → sameb the_type u AtLeast ≡ rounds_up u
up-is AtMost = refl
up-is AtLeast = refl

pub returns-in_err-p : goal.returns-in_err-p
returns-in_err-p c =
    let none : split_of 0 c.args.v ≡ None = grind arith in
    let e = err_from_is_err_and c.from_residual.result c.from_residual.ensures.1 in
    let unread : c.in_err-p.field-0.0 ≡ Unread = grind arith in
    rw (e.1, e.2, unread) (sym (ap told (no-parts-unread c.args.used c.args.v none)))

pub limited-requires : goal.limited-requires
limited-requires c =
    let parts_are : split_of 0 c.args.v ≡ Some c.in_ok-p.p = grind arith in
    whole_le 0 c.args.v c.in_ok-p.p parts_are

pub returns : goal.returns
returns c =
    let a = c.args in
    let parts_are : split_of 0 a.v ≡ Some c.in_ok-p.p = grind arith in
    let more : c.if-p.limited ≡ (c.in_ok-p.p.cut && not (beq c.in_ok-p.p.neg c.eq-up.result)) = elim c.if-p.branch [
      | then-p w ↦ rw w.if-p.true w.limited-is
      | else-p w ↦ rw w.if-p.false (w.limited-is ∙ w.if-p.false)
    ] in
    c.limited.ensures
    ∙ ap told
    (ap (limited_gives (not (beq c.in_ok-p.p.neg c.eq-up.result)) c.in_ok-p.p.whole) more
    ∙ ap (λ (up : Bool). parts_give up c.in_ok-p.p) (c.eq-up.ensures ∙ up-is a.used)
    ∙ split-gives a.used a.v c.in_ok-p.p parts_are)

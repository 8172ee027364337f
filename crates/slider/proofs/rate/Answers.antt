-- `slider::rate` meets its contract. Assumes nothing.
use mathlib.Core.Path.{sym, ap, ◌∙◌}
use Rattle.std.proofs.lemmas.Result.{err_from_is_err_and}
use Rattle.slider.specs.Readings.{work_of, position_of}
use Rattle.slider.specs.Slider.{told}
use Rattle.slider.proofs.Readings.{at_if, off_if}
use Rattle.slider.proofs.Rates.{rate-read, rate-zero, work-unread, rate-place-unread}
use Rattle.slider.proofs.rate.Goals as goal

pub returns-in_err-on_grid : goal.returns-in_err-on_grid
returns-in_err-on_grid c =
    let a = c.args in
    let e = err_from_is_err_and c.from_residual.result c.from_residual.ensures.1 in
    let unread = off_if (work_of a.work) (sym c.on_grid.ensures ∙ c.in_err-on_grid.was) in
    rw (e.1, e.2, unread.0) (ap told (sym (work-unread a.used (work_of a.work) (position_of a.position) unread.1)))

pub returns-in_err-on_grid-2 : goal.returns-in_err-on_grid-2
returns-in_err-on_grid-2 c =
    let a = c.args in
    let e = err_from_is_err_and c.from_residual-in_err-on_grid-2.result c.from_residual-in_err-on_grid-2.ensures.1 in
    let unread = off_if (position_of a.position) (sym c.on_grid-2.ensures ∙ c.in_err-on_grid-2.was) in
    rw (e.1, e.2, unread.0) (ap told (sym (rate-place-unread a.used (work_of a.work) (position_of a.position) unread.1)))

pub returns-then-position : goal.returns-then-position
returns-then-position c =
    let a = c.args in
    let work_at = at_if (work_of a.work) (sym c.on_grid.ensures ∙ c.in_ok-on_grid.was) in
    let place_at = at_if (position_of a.position) (sym c.on_grid-2.ensures ∙ c.in_ok-on_grid-2.was) in
    ap told (sym (rate-zero a.used a.work a.position work_at place_at c.if-position.true))

pub returns : goal.returns
returns c =
    let a = c.args in
    let work_at = at_if (work_of a.work) (sym c.on_grid.ensures ∙ c.in_ok-on_grid.was) in
    let place_at = at_if (position_of a.position) (sym c.on_grid-2.ensures ∙ c.in_ok-on_grid-2.was) in
    c.bound_of.ensures ∙ ap told (rate-read a.used a.work a.position work_at place_at c.if-position.false)

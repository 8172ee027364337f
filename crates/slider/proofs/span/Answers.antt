-- `slider::span` meets its contract. Assumes nothing.
use mathlib.Core.Path.{sym, ap, ◌∙◌}
use Rattle.std.proofs.lemmas.Result.{err_from_is_err_and}
use Rattle.slider.specs.Readings.{end_of, position_of}
use Rattle.slider.specs.Slider.{told}
use Rattle.slider.proofs.Readings.{at_if, off_if}
use Rattle.slider.proofs.Spans.{span-read, low-unread, high-unread, span-place-unread}
use Rattle.slider.proofs.span.Goals as goal

pub returns-in_err-on_grid : goal.returns-in_err-on_grid
returns-in_err-on_grid c =
    let a = c.args in
    let e = err_from_is_err_and c.from_residual.result c.from_residual.ensures.1 in
    let unread = off_if (end_of a.travel.low) (sym c.on_grid.ensures ∙ c.in_err-on_grid.was) in
    rw (e.1, e.2, unread.0) (ap told (sym (low-unread a.used (end_of a.travel.low) (end_of a.travel.high) (position_of a.position) unread.1)))

pub returns-in_err-on_grid-2 : goal.returns-in_err-on_grid-2
returns-in_err-on_grid-2 c =
    let a = c.args in
    let e = err_from_is_err_and c.from_residual-in_err-on_grid-2.result c.from_residual-in_err-on_grid-2.ensures.1 in
    let unread = off_if (end_of a.travel.high) (sym c.on_grid-2.ensures ∙ c.in_err-on_grid-2.was) in
    rw (e.1, e.2, unread.0) (ap told (sym (high-unread a.used (end_of a.travel.low) (end_of a.travel.high) (position_of a.position) unread.1)))

pub returns-in_err-on_grid-3 : goal.returns-in_err-on_grid-3
returns-in_err-on_grid-3 c =
    let a = c.args in
    let e = err_from_is_err_and c.from_residual-in_err-on_grid-3.result c.from_residual-in_err-on_grid-3.ensures.1 in
    let unread = off_if (position_of a.position) (sym c.on_grid-3.ensures ∙ c.in_err-on_grid-3.was) in
    rw (e.1, e.2, unread.0) (ap told (sym (span-place-unread a.used (end_of a.travel.low) (end_of a.travel.high) (position_of a.position) unread.1)))

pub returns : goal.returns
returns c =
    let a = c.args in
    let low_at = at_if (end_of a.travel.low) (sym c.on_grid.ensures ∙ c.in_ok-on_grid.was) in
    let high_at = at_if (end_of a.travel.high) (sym c.on_grid-2.ensures ∙ c.in_ok-on_grid-2.was) in
    let place_at = at_if (position_of a.position) (sym c.on_grid-3.ensures ∙ c.in_ok-on_grid-3.was) in
    c.bound_of.ensures ∙ ap told (span-read a.used a.travel.low a.travel.high a.position low_at high_at place_at)

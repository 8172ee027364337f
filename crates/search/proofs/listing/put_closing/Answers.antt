-- `listing::put_closing` meets its contract: the facts that are kept have the reason of all. Assumes nothing.
use mathlib.Core.Path.{sym, ap, ◌∙◌}
use native.Mathlib.Omega.{arith}
use borrow.Author.Tests.{tests}
use Rattle.taking.proofs.Taking.{table-small}
use Rattle.search.specs.Listing.{put_row}
use Rattle.search.proofs.Keeping.{put-not}
use Rattle.search.proofs.Asides.{serves}
use Rattle.search.proofs.listing.put_closing.Goals as goal

pub narrowed-requires : goal.narrowed-requires
narrowed-requires g c =
    let (all, row) = table-small g.row.W c.requires.4 in
    (all, (row, (c.requires.0, c.requires.1, c.requires.3, c.requires.4, record { fs = _; holds = c.requires.5 })))

pub reason-requires : goal.reason-requires
reason-requires g c =
    let kept = serves g.row.W c.args.p.now c.args.f.now c.args.day.now c.narrowed.result c.args.f.now.full c.requires.1 c.requires.0 c.requires.2 c.requires.5 c.narrowed.ensures in
    (kept.within, kept.unsound, kept.some, kept.old)

pub returns-then-has_room : goal.returns-then-has_room
returns-then-has_room g c =
    let kept = serves g.row.W c.args.p.now c.args.f.now c.args.day.now c.narrowed.result c.args.f.now.full c.requires.1 c.requires.0 c.requires.2 c.requires.5 c.narrowed.ensures in
    c.put_row.ensures ∙ ap (put_row c.args.reasons.now c.args.rows) (c.reason.ensures ∙ kept.row)

pub returns-else-has_room : goal.returns-else-has_room
returns-else-has_room g c = sym (put-not c.args.reasons.now c.args.rows _ (grind (arith, tests)))

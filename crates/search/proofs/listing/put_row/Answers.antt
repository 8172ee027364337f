-- `search::listing::put_row` meets its contract: the row is written where there is room. Assumes nothing.
use Rattle.std.proofs.Common.{◌≡◌, ◌+◌, ◌*◌, ◌-◌, length, sym}
use native.Mathlib.Omega.{arith}
use borrow.Author.Tests.{tests}
use borrow.Author.Rules.{rules}
use Rattle.meaning.specs.Limits.{row_bytes}
use Rattle.std.proofs.lemmas.List.{drop-drop}
use Rattle.search.proofs.Keeping.{put-fits, put-not}
use Rattle.search.proofs.listing.put_row.Goals as goal

pub returns-then-has_room : goal.returns-then-has_room
returns-then-has_room c =
    let n : c.args.rows * row_bytes + row_bytes - c.args.rows * row_bytes ≡ row_bytes = omega arith in
    let l : length c.args.row ≡ row_bytes = search rules in
    rw (n, c.copy_from_slice.ensures.after, drop-drop) (sym (rw l at (put-fits c.args.reasons.now c.args.rows c.args.row (omega arith))))

pub returns-else-has_room : goal.returns-else-has_room
returns-else-has_room c = sym (put-not c.args.reasons.now c.args.rows c.args.row (grind (arith, tests)))

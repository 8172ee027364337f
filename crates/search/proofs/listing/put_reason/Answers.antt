-- `search::listing::put_reason` meets its contract: the row is worked out and put where there is room, and nothing is where there is none. Assumes nothing.
use mathlib.Core.Path.{sym}
use native.Mathlib.Omega.{arith}
use borrow.Author.Tests.{tests}
use Rattle.search.proofs.Keeping.{put-not}
use Rattle.search.proofs.listing.put_reason.Goals as goal

pub returns-else-has_room : goal.returns-else-has_room
returns-else-has_room c = sym (put-not c.args.reasons.now c.args.rows _ (grind (arith, tests)))

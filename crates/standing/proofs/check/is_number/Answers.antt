-- `is_number` meets its contract. Assumes nothing.
use borrow.Author.Tests.{le-leb, lt-leb}
use Rattle.distances.specs.Numbers.{no_way}
use Rattle.standing.proofs.Singles.{range_none, range-low, range-is}
use Rattle.standing.proofs.check.is_number.Goals as goal

pub returns-then-e-ge-NO_WAY : goal.returns-then-e-ge-NO_WAY
returns-then-e-ge-NO_WAY c = rw (le-leb no_way c.args.e c.if-e-ge-NO_WAY.true) (range_none c.args.e c.if-e-ge-NO_WAY.true)

pub returns-then-e-ge1 : goal.returns-then-e-ge1
returns-then-e-ge1 c = range-is c.args.e c.if-e-ge-NO_WAY.false c.if-e-ge1.true

pub returns-else-e-ge1 : goal.returns-else-e-ge1
returns-else-e-ge1 c = rw (lt-leb 1 c.args.e c.if-e-ge1.false) (range-low c.args.e c.if-e-ge-NO_WAY.false c.if-e-ge1.false)

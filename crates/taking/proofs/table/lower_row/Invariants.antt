-- `table::lower_row` meets its contract: the numbers before v are lowered. Assumes nothing.
use mathlib.Core.Path.{◌≡◌}
use lib.ListN.{length}
use Rattle.taking.specs.Tables.{RowLowered}
use Rattle.taking.proofs.table.lower_row.Given as goal

abbrev pub invariant-loop-v : goal.invariant-loop-v
invariant-loop-v g l = (length l.lowered ≡ g.row.W) × RowLowered l.v l.row l.way l.past l.lowered

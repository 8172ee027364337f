-- `lower_row` meets its contract. Assumes nothing.
use Rattle.distances.specs.Rows.{RowLowered}
use Rattle.distances.proofs.lower_row.Given as goal

abbrev pub invariant-loop-v : goal.invariant-loop-v
invariant-loop-v l = RowLowered l.initial.s l.s l.from l.to l.past l.v l.t

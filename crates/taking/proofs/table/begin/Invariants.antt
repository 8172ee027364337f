-- `table::begin` meets its contract: the first u rows say that an event is 0 from itself, and a span from each other. Assumes nothing.
use Rattle.taking.proofs.Rows.{Beginning}
use Rattle.taking.proofs.table.begin.Given as goal

abbrev pub invariant-loop-u : goal.invariant-loop-u
invariant-loop-u g l = Beginning g.row.W l.initial.days l.days l.u

-- `table::extend` meets its contract: the first u rows are extended. Assumes nothing.
use Rattle.taking.proofs.Rows.{Extending}
use Rattle.taking.proofs.table.extend.Given as goal

abbrev pub invariant-loop-u : goal.invariant-loop-u
invariant-loop-u g l = Extending g.row.W l.initial.days l.days l.from l.to l.fact.x l.fact.y l.fact.b l.u

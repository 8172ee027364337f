-- `taking::passes_all` meets its contract: the opposites passed over so far are in the table. Assumes nothing.
use Rattle.problem.specs.Arcs.{net}
use Rattle.taking.proofs.Taking.{Passing}
use Rattle.taking.proofs.passes_all.Given as goal

abbrev pub invariant-loop-j : goal.invariant-loop-j
invariant-loop-j g l = Passing g.row.W l.initial.days l.days l.from l.to (net l.arcs) l.first l.j l.base

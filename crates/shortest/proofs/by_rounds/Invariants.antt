-- `by_rounds` gives the row of the shortest reason: after t turns it has the best row of the fewest facts from the events below t. Assumes nothing.
use Rattle.problem.specs.Arcs.{net}
use Rattle.shortest.specs.Best.{Best}
use Rattle.shortest.proofs.by_rounds.Given as goal

abbrev pub invariant-loop-t : goal.invariant-loop-t
invariant-loop-t l = Best (net l.arcs) l.facts l.t l.size l.best

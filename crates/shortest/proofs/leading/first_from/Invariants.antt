-- `first_from` leads a front on: after i turns it has the i numbers of a front that can still be closed, and no closed row comes before it. Assumes nothing.
use Rattle.problem.specs.Arcs.{net}
use Rattle.shortest.proofs.Fronts.{Front}
use Rattle.shortest.proofs.leading.first_from.Given as goal

abbrev pub invariant-loop-i : goal.invariant-loop-i
invariant-loop-i l = Front (net l.arcs) l.facts l.t l.size l.out l.u l.need l.i

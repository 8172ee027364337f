-- `extend` meets its contract. Assumes nothing.
use Rattle.distances.proofs.Tables.{Extending}
use Rattle.distances.proofs.extend.Given as goal

abbrev pub invariant-loop-u : goal.invariant-loop-u
invariant-loop-u l = Extending l.initial.s l.s l.day.base l.to l.day.w l.day.n l.fact.x l.fact.y l.fact.b l.u

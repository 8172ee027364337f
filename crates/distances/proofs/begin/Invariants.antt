-- `begin` meets its contract. Assumes nothing.
use Rattle.distances.proofs.Beginning.{Started}
use Rattle.distances.proofs.begin.Given as goal

abbrev pub invariant-loop-u : goal.invariant-loop-u
invariant-loop-u l = Started l.initial.s l.s l.day.base l.day.w l.day.n l.u

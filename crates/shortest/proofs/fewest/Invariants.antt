-- `fewest` tells the fewest facts of a closed row: after i turns those of the rows from the tails of the first i facts; and by the law those of all. Assumes nothing.
use Rattle.problem.specs.Arcs.{net}
use Rattle.shortest.proofs.Newest.{FewestOf}
use Rattle.shortest.proofs.fewest.Given as goal

abbrev pub invariant-loop-j : goal.invariant-loop-j
invariant-loop-j l = FewestOf (net l.arcs) l.facts l.n l.j-index l.size

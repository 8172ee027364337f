-- `lamps::counts_of` meets its contract: after k clauses the first k counts are theirs and the rest is 0. Assumes nothing.
use mathlib.Core.Path.{◌≡◌}
use mathlib.Core.List.{◌++◌, map}
use lib.ListN.{take, drop, replicate}
use Rattle.meaning.specs.Limits.{most_clauses}
use Rattle.meaning.specs.Lamps.{ones, lit}
use Rattle.problem.specs.Laid.{clauses_in}
use Rattle.lamps.proofs.counts_of.Given as goal

abbrev pub invariant-loop-k : goal.invariant-loop-k
invariant-loop-k l = l.each ≡ take l.k (map ones (lit (clauses_in l.p))) ++ drop l.k (replicate most_clauses 0)

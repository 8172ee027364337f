use Rattle.std.proofs.Common.{◌≡◌}
use lib.ListN.{drop}
use Rattle.meaning.specs.Screen.{stepped}
use Rattle.problem.proofs.refusing.steps.Given as goal

abbrev pub invariant-loop-count : goal.invariant-loop-count
invariant-loop-count l = stepped l.last 0 l.counts ≡ stepped l.last l.from (drop l.count-index l.counts)

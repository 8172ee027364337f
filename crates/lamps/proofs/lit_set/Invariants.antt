-- `lamps::lit_set` meets its contract: after j alternatives the set is that of the first j lamps. Assumes nothing.
use mathlib.Core.Path.{◌≡◌}
use Rattle.meaning.specs.Lamps.{bits, lamps_of}
use Rattle.problem.specs.Arcs.{arcs_from}
use Rattle.problem.specs.Laid.{arcs}
use Rattle.held.specs.Held.{facts_in}
use Rattle.lamps.proofs.lit_set.Given as goal

abbrev pub invariant-loop-j : goal.invariant-loop-j
invariant-loop-j l = l.set ≡ bits (lamps_of (facts_in l.p l.f) (arcs_from (arcs l.p) 0 l.j))

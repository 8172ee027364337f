-- `readers::is_cycle` meets its contract: the walk from the next number on closes where the whole one does. Assumes nothing.
use mathlib.Core.Path.{◌≡◌}
use mathlib.Core.List.{map}
use Prim.Native.Nat.{◌*◌, ◌≤◌}
use lib.ListN.{drop}
use Rattle.meaning.specs.Reasons.{loops}
use Rattle.problem.specs.Arcs.{arc}
use Rattle.problem.specs.Laid.{arcs}
use Rattle.readers.proofs.Walking.{walk_on}
use Rattle.readers.proofs.is_cycle.Given as goal

abbrev pub invariant-loop-b : goal.invariant-loop-b
invariant-loop-b l = (l.sum ≤ l.b-index * 200002) × (loops (map (arc (arcs l.p)) l.facts) l.walked ≡ walk_on (arcs l.p) l.facts l.start l.here l.b-index l.sum (drop l.b-index l.walked))

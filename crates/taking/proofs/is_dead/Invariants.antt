-- `taking::is_dead` meets its contract: what was found alive, or whether the arcs still to come are dead, is whether all are. Assumes nothing.
use mathlib.Core.Path.{◌≡◌}
use mathlib.Core.Bool.{false, cond}
use mathlib.Core.List.{List}
use Prim.Native.Nat.{◌-◌}
use Rattle.meaning.specs.Problem.{Alternative}
use Rattle.meaning.specs.Decision.{sound}
use Rattle.meaning.specs.Search.{dead}
use Rattle.problem.specs.Arcs.{net, arcs_from}
use Rattle.taking.specs.Tables.{IsDay}
use Rattle.taking.proofs.is_dead.Given as goal

abbrev pub invariant-loop-j : goal.invariant-loop-j
invariant-loop-j g l = (fs : List Alternative) → IsDay g.row.W fs l.day → cond l.alive false (dead sound fs (arcs_from (net l.arcs) l.j (l.end - l.j))) ≡ dead sound fs (arcs_from (net l.arcs) l.from (l.end - l.from))

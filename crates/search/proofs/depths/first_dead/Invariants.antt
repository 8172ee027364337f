-- `depths::first_dead` meets its contract: no clause before d is dead. Assumes nothing.
use mathlib.Core.Path.{◌≡◌}
use mathlib.Core.Bool.{false}
use mathlib.Core.List.{List}
use Prim.Native.Nat.{ℕ, ◌<◌, ◌≤◌}
use Rattle.meaning.specs.Problem.{Alternative}
use Rattle.meaning.specs.Decision.{sound}
use Rattle.meaning.specs.Search.{dead}
use Rattle.problem.specs.Laid.{clause_of}
use Rattle.taking.specs.Tables.{IsDay}
use Rattle.search.proofs.depths.first_dead.Given as goal

abbrev pub invariant-loop-d : goal.invariant-loop-d
invariant-loop-d g l = (fs : List Alternative) → IsDay g.row.W fs l.day → (i : ℕ) → l.k ≤ i → i < l.d → false ≡ dead sound fs (clause_of l.p i)

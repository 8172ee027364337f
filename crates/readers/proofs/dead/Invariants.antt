-- `readers::dead` meets its contract: what remains of the dead clause from alternative j on gives the same. Assumes nothing.
use mathlib.Core.Path.{◌≡◌}
use Prim.Native.Nat.{◌+◌, ◌-◌}
use Rattle.meaning.specs.Limits.{row_bytes}
use Rattle.meaning.specs.Reasons.{cycle_rows}
use Rattle.problem.specs.Arcs.{at, arcs_from}
use Rattle.problem.specs.Laid.{arcs, clauses_from}
use Rattle.readers.specs.Standing.{facts_from}
use Rattle.readers.specs.Leaves.{dead_rows}
use Rattle.readers.proofs.dead.Given as goal

abbrev pub invariant-loop-j : goal.invariant-loop-j
invariant-loop-j l =
    dead_rows (clauses_from l.p l.k (l.p.m - l.k)) l.k l.fn.d (facts_from l.p l.facts) l.rows ≡ cycle_rows row_bytes (facts_from l.p l.facts) (arcs_from (arcs l.p) l.j (at l.p.starts (l.fn.d + 1) - l.j)) l.rest

-- `readers::reading` meets its contract: what remains of the next clause from alternative j on gives the same; the clauses left fall at each call. Assumes nothing.
use Prim.Native.Nat.{◌-◌}
use Rattle.meaning.specs.Limits.{row_bytes}
use Rattle.meaning.specs.Reasons.{read}
use Rattle.problem.specs.Laid.{clauses_from}
use Rattle.readers.specs.Standing.{facts_from}
use Rattle.readers.proofs.Turns.{Passing}
use Rattle.readers.proofs.+reading.Given as goal

abbrev pub decreases-reading : goal.decreases-reading
decreases-reading l = l.p.now.m - l.k

abbrev pub invariant-loop-j : goal.invariant-loop-j
invariant-loop-j l = Passing l.p l.k (read row_bytes (clauses_from l.p l.k (l.p.m - l.k)) l.k (facts_from l.p l.fn.facts) l.rows) l.j l.known l.rest

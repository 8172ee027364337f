-- `narrowing::narrowed` meets its contract: the places from i on have been looked at. Assumes nothing.
use Rattle.search.proofs.Asides.{Looking}
use Rattle.search.proofs.narrowing.narrowed.Given as goal

abbrev pub invariant-loop-i : goal.invariant-loop-i
invariant-loop-i g l = Looking g.row.W l.p l.f l.day l.kept l.i

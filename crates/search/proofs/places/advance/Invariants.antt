-- `search::places::advance` meets its contract: the positions passed can't go on, so the next standing is that of those left. Assumes nothing.
use Rattle.std.proofs.Common.{◌≡◌, take}
use Rattle.meaning.specs.Search.{next}
use Rattle.problem.specs.Laid.{clauses_in}
use Rattle.search.proofs.places.advance.Given as goal

abbrev pub invariant-loop-i : goal.invariant-loop-i
invariant-loop-i l = next (clauses_in l.p) (take l.i l.s.picks) ≡ next (clauses_in l.p) (take l.s.k l.s.picks)

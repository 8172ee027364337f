-- `search::places::rank_of` meets its contract: the rank of the positions from i on among the clauses from i on, and their product. Assumes nothing.
use Rattle.std.proofs.Common.{◌≡◌, ◌-◌, take, drop}
use Rattle.meaning.specs.Plain.{product, rank}
use Rattle.problem.specs.Laid.{clauses_from}
use Rattle.search.proofs.places.rank_of.Given as goal

abbrev pub invariant-loop-i : goal.invariant-loop-i
invariant-loop-i l =
    record {
      whole : l.all ≡ product (clauses_from l.p l.i (l.p.m - l.i));
      ranked : l.before ≡ rank (clauses_from l.p l.i (l.p.m - l.i)) (drop l.i (take l.s.k l.s.picks));
    }

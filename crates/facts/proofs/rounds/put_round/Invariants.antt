-- `put_round` is a round: after i turns the row after row k is the round's first i facts from row k. Assumes nothing.
use Rattle.std.proofs.Common.{◌≡◌, [], ◌+◌, not, eqb, get_or, set}
use Rattle.problem.specs.Arcs.{net}
use Rattle.facts.specs.Rounds.{aimed, upto}
use Rattle.facts.proofs.rounds.put_round.Given as goal

abbrev pub invariant-loop-fact : goal.invariant-loop-fact
invariant-loop-fact g l =
    l.t ≡ set l.fn.t (l.k + 1) (upto (aimed (not (eqb g.row.TURNED 0)) (net l.arcs)) l.facts (get_or l.fn.t l.k []) l.fact-index)

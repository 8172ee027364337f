-- `put_rounds` makes the rounds: after k turns the table's rows up to k are those of k rounds, each of these changed a time, and the rows after k are as they were. Assumes nothing.
use Rattle.std.proofs.Common.{◌≡◌, [], get_or, length}
use Rattle.problem.specs.Arcs.{net}
use Rattle.facts.specs.Rounds.{Rounds, Moving, Stays}
use Rattle.facts.proofs.rounds.put_rounds.Given as goal

abbrev pub invariant-loop-k : goal.invariant-loop-k
invariant-loop-k l =
    record {
      made : Rounds (net l.arcs) l.facts (get_or l.initial.t 0 []) l.k l.t;
      moving : Moving (net l.arcs) l.facts (get_or l.initial.t 0 []) l.k;
      stays : Stays l.k l.initial.t l.t;
      long : length l.t ≡ length l.initial.t;
    }

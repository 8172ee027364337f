-- `rounds_to` makes the rounds to a target: after r turns the table's rows up to r are those of r rounds, and after none of these the target stands above its start. Assumes nothing.
use Rattle.std.proofs.Common.{◌≡◌, ℕ, length, ◌+◌, ◌≤◌, ◌<◌}
use Rattle.meaning.specs.Limits.{most_events}
use Rattle.problem.specs.Arcs.{net}
use Rattle.facts.specs.Rounds.{turned, Rounds}
use Rattle.shortest.specs.Heights.{highest, start, height}
use Rattle.shortest.proofs.heights.rounds_to.Given as goal

abbrev pub invariant-loop-r : goal.invariant-loop-r
invariant-loop-r l =
    record {
      made : Rounds (turned (net l.arcs)) l.facts (start l.t) l.r l.tab;
      low : (k : ℕ) → k < l.r + 1 → height (net l.arcs) l.facts l.t k l.t ≤ highest;
      long : length l.tab ≡ most_events + 1;
    }

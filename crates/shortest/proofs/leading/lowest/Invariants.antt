-- `lowest` finds the smallest number of a fact from an event: after i turns that of the first i facts. Assumes nothing.
use Rattle.std.proofs.Common.{◌≡◌, ℕ, ◌<◌, ◌≤◌, IfSome}
use Rattle.std.specs.Option.{IsSomeAnd}
use Rattle.problem.specs.Arcs.{net, tail, at}
use Rattle.facts.specs.Tests.{IsFact}
use Rattle.shortest.proofs.leading.lowest.Given as goal

abbrev pub invariant-loop-j : goal.invariant-loop-j
invariant-loop-j l =
    record {
      some : IfSome l.low (λ r. IsFact l.facts r × (tail (net l.arcs) r ≡ l.t));
      least : (k : ℕ) → k < l.j-index → tail (net l.arcs) (at l.facts k) ≡ l.t → IsSomeAnd l.low (λ b. b ≤ at l.facts k);
    }

-- `next_arc` finds the smallest number that leads on: after i turns that of the first i facts. Assumes nothing.
use Rattle.std.proofs.Common.{ℕ, ◌<◌, ◌≤◌, IfSome}
use Rattle.std.specs.Option.{IsSomeAnd}
use Rattle.problem.specs.Arcs.{net, at}
use Rattle.shortest.specs.Leading.{Leads, Fits}
use Rattle.shortest.proofs.leading.next_arc.Given as goal

abbrev pub invariant-loop-j : goal.invariant-loop-j
invariant-loop-j l =
    record {
      some : IfSome l.best (Fits (net l.arcs) l.facts l.heights l.u l.need);
      least : (k : ℕ) → k < l.j-index → Leads (net l.arcs) l.heights l.u l.need (at l.facts k) → IsSomeAnd l.best (λ b. b ≤ at l.facts k);
    }

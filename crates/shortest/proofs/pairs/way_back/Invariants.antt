-- `way_back` finds the smallest number of a fact that leads back: after i turns that of the first i facts. Assumes nothing.
use Rattle.std.proofs.Common.{ℕ, ◌<◌, ◌≤◌, IfSome}
use Rattle.std.specs.Option.{IsSomeAnd}
use Rattle.problem.specs.Arcs.{net, at}
use Rattle.shortest.specs.Pairs.{LeadsBack, Returns}
use Rattle.shortest.proofs.pairs.way_back.Given as goal

abbrev pub invariant-loop-j : goal.invariant-loop-j
invariant-loop-j l =
    record {
      some : IfSome l.best (Returns (net l.arcs) l.facts l.a);
      least : (k : ℕ) → k < l.j-index → LeadsBack (net l.arcs) l.a (at l.facts k) → IsSomeAnd l.best (λ b. b ≤ at l.facts k);
    }

-- `search::taken::facts_of` meets its contract: the positions still to come, put before what the buffer holds, give the facts of the standing. Assumes nothing.
use Rattle.std.proofs.Common.{◌≡◌, ◌+◌, ◌≤◌, [], take, drop}
use Rattle.problem.specs.Arcs.{at}
use Rattle.facts.specs.Tests.{places}
use Rattle.held.specs.Held.{held}
use Rattle.search.specs.Standing.{standing_facts}
use Rattle.search.proofs.taken.facts_of.Given as goal

abbrev pub invariant-loop-c : goal.invariant-loop-c
invariant-loop-c l =
    record {
      same : standing_facts l.p.starts l.c (drop l.c (take l.s.k l.s.picks)) (held l.f) ≡ standing_facts l.p.starts 0 (take l.s.k l.s.picks) [];
      room : places ≤ l.f.at + at l.p.starts l.c;
    }

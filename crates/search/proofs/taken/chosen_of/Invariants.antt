-- `search::taken::chosen_of` meets its contract: the alternatives of the positions from i on are held. Assumes nothing.
use Rattle.std.proofs.Common.{◌≡◌, ◌+◌, take, drop}
use Rattle.facts.specs.Tests.{places}
use Rattle.held.specs.Held.{held}
use Rattle.search.specs.Standing.{chosen_facts}
use Rattle.search.proofs.taken.chosen_of.Given as goal

abbrev pub invariant-loop-i : goal.invariant-loop-i
invariant-loop-i l =
    record { chosen : held l.f ≡ chosen_facts l.p.starts l.i (drop l.i (take l.p.m l.picks)); room : l.f.at + l.p.m ≡ places + l.i }

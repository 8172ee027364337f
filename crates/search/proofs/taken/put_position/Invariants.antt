-- `search::taken::put_position` meets its contract: what is still to be taken, put before what is held, stays the same. Assumes nothing.
use Rattle.std.proofs.Common.{◌≡◌, ◌+◌, ◌-◌}
use Rattle.held.specs.Held.{held}
use Rattle.search.specs.Standing.{takes}
use Rattle.search.proofs.taken.put_position.Given as goal

abbrev pub invariant-loop-j : goal.invariant-loop-j
invariant-loop-j l =
    record {
      same : takes l.j (l.last - l.j) (held l.f) ≡ takes l.first (l.last - l.first) (held l.initial.f);
      room : l.f.at + l.j ≡ l.initial.f.at + l.first;
    }

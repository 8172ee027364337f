-- `lamps::forced_facts` meets its contract: after clauses k on, the buffer holds their forced alternatives. Assumes nothing.
use mathlib.Core.Path.{◌≡◌}
use Prim.Native.Nat.{◌+◌, ◌-◌, ◌≤◌}
use Rattle.meaning.specs.Lamps.{forced}
use Rattle.problem.specs.Arcs.{Known, places}
use Rattle.problem.specs.Laid.{arcs, clauses_from}
use Rattle.held.specs.Held.{held, facts_in}
use Rattle.lamps.proofs.forced_facts.Given as goal

abbrev pub invariant-loop-k : goal.invariant-loop-k
invariant-loop-k l =
    record {
      is : facts_in l.p l.f ≡ forced (clauses_from l.p l.k (l.p.m - l.k));
      known : Known (arcs l.p) l.p.n (held l.f);
      room : places ≤ l.f.at + (l.p.m - l.k);
    }

-- `search::listing::put_clause` meets its contract: the cycle rows of the alternatives passed are kept, and those to come are dead. Assumes nothing.
use Rattle.std.proofs.Common.{◌≡◌, true, ◌-◌, ◌∷◌, map}
use Rattle.meaning.specs.Decision.{sound}
use Rattle.meaning.specs.Search.{dead, cycle}
use Rattle.problem.specs.Arcs.{arcs_from}
use Rattle.problem.specs.Laid.{arcs}
use Rattle.held.specs.Held.{facts_in}
use Rattle.search.specs.Listing.{Keeps}
use Rattle.search.proofs.listing.put_clause.Given as goal

abbrev pub invariant-loop-j : goal.invariant-loop-j
invariant-loop-j g l =
    record {
      kept : Keeps l.initial.reasons l.reasons l.rows (map (λ a. cycle (a ∷ facts_in l.p l.f)) (arcs_from (arcs l.p) l.first (l.j - l.first)));
      left : dead sound (facts_in l.p l.f) (arcs_from (arcs l.p) l.j (l.j-end - l.j)) ≡ true;
    }

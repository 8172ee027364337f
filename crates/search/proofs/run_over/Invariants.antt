-- `search::run_over` meets its contract: the whole search is what was closed so far, and the search from the place; the tables are those of the place. Assumes nothing.
use mathlib.Core.Path.{◌≡◌}
use mathlib.Core.List.{[]}
use lib.ListN.{length}
use Rattle.meaning.specs.Decision.{sound}
use Rattle.meaning.specs.Search.{search}
use Rattle.problem.specs.Laid.{clauses_in}
use Rattle.search.specs.Steps.{effort, Fine, At}
use Rattle.search.specs.Depths.{Depths}
use Rattle.search.proofs.run_over.Given as goal

abbrev pub invariant-loop-t : goal.invariant-loop-t
invariant-loop-t g l =
    record {
      fine : Fine l.p l.allowance l.s;
      here : At l.p l.allowance (search sound (clauses_in l.p) 0 [] l.allowance) l.s l.reasons;
      sized : length l.reasons ≡ length l.initial.reasons;
      depths : Depths g.row.W l.p l.s.standing.picks l.s.standing.k l.days;
    }

abbrev pub decreases-loop-t : goal.decreases-loop-t
decreases-loop-t g l = effort l.p l.allowance l.s

-- `search::leave` meets its contract: the next standing has fewer alternatives open. Assumes nothing.
use Rattle.std.proofs.Common.{refl}
use Rattle.problem.specs.Laid.{clauses_in}
use Rattle.search.proofs.Ranks.{open_next}
use Rattle.search.proofs.leave.Goals as goal

pub returns-in-Some : goal.returns-in-Some
returns-in-Some c =
    let a = c.in-Some.ensures in
    (record { visits = refl; rows = refl }, a.goes.0, a.goes.1, open_next (clauses_in c.args.p.now) _ _ a.goes.0, a.goes.2)

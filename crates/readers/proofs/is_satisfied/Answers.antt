-- `readers::is_satisfied` meets its contract. Assumes nothing.
use Rattle.std.proofs.Common.{pos, get_or, rules}
use Rattle.lent.proofs.Signed.{element}
use Rattle.meaning.specs.Problem.{satisfied}
use Rattle.problem.proofs.Knowing.{head-is, tail-is, bound-is}
use Rattle.readers.proofs.is_satisfied.Goals as goal

pub returns : goal.returns
unfolding satisfied
returns c =
    let arcs = c.args.p.now.arcs in
    let j = c.args.j in
    let tx = get_or c.args.times.now c.from.result (pos 0) in
    let ty = get_or c.args.times.now c.from-2.result (pos 0) in
    rw (head-is arcs j, tail-is arcs j, bound-is arcs j, ← c.from.ensures, ← c.from-2.ensures) (rw (element tx (search rules), element ty (search rules)) at c.at_most.ensures)

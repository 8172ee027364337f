-- `solve::solution` meets its contract: what was read lies within its arrays, and `plan` answers for it. Assumes nothing.
use mathlib.Core.Path.{sym, ◌∙◌}
use native.Mathlib.Omega.{arith}
use Rattle.script.proofs.Fronts.{script-within}
use Rattle.solve.proofs.Solving.{says-too-long, says-refused, says-planned}
use Rattle.solve.proofs.solution.Goals as goal

pub returns-then-text-gt-BYTES : goal.returns-then-text-gt-BYTES
returns-then-text-gt-BYTES c = says-too-long c.args.text.now (omega arith)

pub triples-requires : goal.triples-requires
triples-requires c = (script-within _ _ (sym c.in-Ok.ensures)).0

pub counts-requires : goal.counts-requires
counts-requires c = (script-within _ _ (sym c.in-Ok.ensures)).1

pub returns-in-Ok : goal.returns-in-Ok
returns-in-Ok c =
    let answers = rw (c.triples.ensures, c.counts.ensures) at c.plan.ensures.answers in
    c.saying_of.ensures ∙ says-planned c.args.text.now (omega arith) c.in-Ok.script c.plan.result c.in-Ok.ensures answers

pub returns-in-Err : goal.returns-in-Err
returns-in-Err c = rw c.into.ensures (says-refused c.args.text.now (omega arith) c.in-Err.refused c.in-Err.ensures)

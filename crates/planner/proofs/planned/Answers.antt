-- `planner::planned` meets its contract: what is left, by how the run ended, is what the screen shows. Assumes nothing.
use borrow.Author.Rules.{rules}
use Rattle.search.proofs.Running.{none-few}
use Rattle.planner.proofs.Turning.{plan-sound, answers-closed, answers-stopped, answers-found}
use Rattle.planner.proofs.planned.Goals as goal

pub closed-requires : goal.closed-requires
closed-requires c = none-few c.args.p.now c.args.allowance c.in-Closed.s c.run.new.reasons c.requires.0 c.in-Closed.ensures.0.ends

pub found-requires : goal.found-requires
found-requires c =
    let h = c.in-Plan.ensures.0.ends in
    (h.inside, h.whole, c.requires.2, c.requires.3, plan-sound c.args.p.now c.args.allowance c.in-Plan.s h)

pub returns-in-Closed : goal.returns-in-Closed
returns-in-Closed c =
    let e = c.in-Closed.ensures in
    answers-closed c.args.p.now c.args.allowance c.in-Closed.s _ _ _ c.requires.1 _ _ e.0.sized e.1 e.0.ends c.closed.ensures

pub returns-in-Plan : goal.returns-in-Plan
returns-in-Plan c =
    let e = c.in-Plan.ensures in
    answers-found c.args.p.now c.args.allowance c.in-Plan.s _ _ _ c.requires.1 _ _ _ _ (search rules) e.1 e.0.ends c.found.ensures

pub returns-in-Stop : goal.returns-in-Stop
returns-in-Stop c =
    let e = c.in-Stop.ensures in
    answers-stopped c.args.p.now c.args.allowance c.in-Stop.s _ _ _ c.requires.1 _ _ e.1 c.stopped.ensures e.0.ends

-- `problem::refusing::steps` meets its contract.
use Rattle.std.proofs.Common.{arith}
use Rattle.problem.proofs.Counts.{stepped-step, stepped-end}
use Rattle.problem.proofs.refusing.steps.Goals as goal

pub returns-then-end-from : goal.returns-then-end-from
returns-then-end-from c = grind (arith, stepped-step)

pub loop-count-preserved : goal.loop-count-preserved
loop-count-preserved c = grind (arith, stepped-step)

pub returns : goal.returns
returns c = grind (arith, stepped-end)

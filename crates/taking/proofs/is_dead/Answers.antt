-- `taking::is_dead` meets its contract: what was found alive, or whether the arcs still to come are dead, is whether all are. Assumes nothing.
use native.Mathlib.Omega.{arith}
use Rattle.problem.specs.Arcs.{net}
use Rattle.taking.proofs.Dying.{alive-more, alive-end}
use Rattle.taking.proofs.is_dead.Goals as goal

pub loop-j-preserved : goal.loop-j-preserved
loop-j-preserved g c =
    λ fs day. alive-more fs (net c.args.arcs.now) c.loop-j.j c.args.end _ c.loop-j.alive (c.loop-j.invariant fs day) c.loop-j-test.true c.allows-alive.result (c.allows-alive.ensures fs day)

pub returns : goal.returns
returns g c =
    λ fs day. alive-end fs (net c.args.arcs.now) c.loop-j.j c.args.end _ c.loop-j.alive (c.loop-j.invariant fs day) (omega arith)

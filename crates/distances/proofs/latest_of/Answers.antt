-- `latest_of` meets its contract. Assumes nothing.
use mathlib.Core.Path.{refl}
use native.Mathlib.Omega.{arith}
use Rattle.distances.specs.Numbers.{minutes_of}
use Rattle.distances.proofs.Minutes.{minutes-more}
use Rattle.distances.proofs.latest_of.Goals as goal

pub loop-u-init : goal.loop-u-init
loop-u-init c = unfold minutes_of in refl

pub loop-u-preserved : goal.loop-u-preserved
loop-u-preserved c = minutes-more c.args.s.now c.args.day.base c.args.day.w c.args.v c.loop-u.u c.loop-u.m c.max-m.result c.loop-u.invariant (grind arith)

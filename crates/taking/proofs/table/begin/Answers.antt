-- `table::begin` meets its contract. Assumes nothing.
use native.Mathlib.Omega.{arith}
use Rattle.taking.proofs.Rows.{with-row, beginning-none, beginning-more, begun}
use Rattle.taking.proofs.table.begin.Goals as goal

pub loop-u-init : goal.loop-u-init
loop-u-init g c = beginning-none g.row.W c.args.days.now

pub loop-u-preserved : goal.loop-u-preserved
loop-u-preserved g c = unfold with-row in beginning-more g.row.W c.args.days.now c.loop-u.days c.loop-u.u c.loop-u.invariant (omega arith) c.requires.0 c.requires.1

pub returns : goal.returns
returns g c = (c.loop-u.invariant.beside, begun g.row.W c.args.days.now c.loop-u.days c.loop-u.u (omega arith) c.loop-u.invariant)

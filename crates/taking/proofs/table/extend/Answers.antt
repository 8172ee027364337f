-- `table::extend` meets its contract. Assumes nothing.
use mathlib.Core.Path.{refl}
use native.Mathlib.Omega.{arith}
use Rattle.taking.proofs.Adding.{with-fact}
use Rattle.taking.proofs.Rows.{with-row, extending-none, extending-more, extending-all}
use Rattle.taking.proofs.table.extend.Goals as goal

pub loop-u-init : goal.loop-u-init
loop-u-init g c = extending-none g.row.W c.args.days.now c.args.from c.args.to c.args.fact.x c.args.fact.y c.args.fact.b

pub loop-u-preserved : goal.loop-u-preserved
loop-u-preserved g c = unfold with-row in
    extending-more g.row.W c.args.days.now c.args.from c.args.to c.args.fact.x c.args.fact.y c.args.fact.b c.loop-u.days c.loop-u.u _ _ _ c.lower_row.result c.loop-u.invariant (omega arith) c.requires.2 c.requires.3 refl refl refl c.lower_row.ensures

pub returns : goal.returns
returns g c = (
  c.loop-u.invariant.beside,
  λ fs a stands day sound. with-fact g.row.W c.requires.0 fs _ day c.args.fact.x c.args.fact.y c.args.fact.b a stands c.requires.4 c.requires.5 c.args.fact.bounded _ (extending-all g.row.W c.args.days.now c.args.from c.args.to c.args.fact.x c.args.fact.y c.args.fact.b c.loop-u.days c.loop-u.u (omega arith) c.loop-u.invariant) sound,
)

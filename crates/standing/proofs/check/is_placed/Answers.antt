-- `is_placed` meets its contract. Assumes nothing.
use mathlib.Core.Logic.{⊎_elim}
use borrow.Author.Tests.{ne_eqb}
use Rattle.standing.proofs.Singles.{placed_row, placed-column, placed-own, placed-other}
use Rattle.standing.proofs.check.is_placed.Goals as goal

pub returns-then-n-v : goal.returns-then-n-v
returns-then-n-v c =
    let a = c.args in
    ⊎_elim (λ h. placed_row a.n a.u a.v a.e h) (λ h. placed-column a.n a.u a.v a.e h.0 h.1) c.if-n-v.either

pub returns-then-u-v : goal.returns-then-u-v
returns-then-u-v c =
    let a = c.args in
    rw (ne_eqb a.u a.v c.if-u-v.true) (placed-other a.n a.u a.v a.e c.if-n-v.false.0 c.if-n-v.false.1 c.if-u-v.true)

pub returns-else-u-v : goal.returns-else-u-v
returns-else-u-v c = placed-own c.args.n c.args.u c.args.v c.args.e c.if-n-v.false.0 c.if-n-v.false.1 c.if-u-v.false

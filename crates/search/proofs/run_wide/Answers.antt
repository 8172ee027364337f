-- `search::run_wide` meets its contract: a first run tells how the search ends, and a second writes the rows where they fit. Assumes nothing.
use mathlib.Core.Path.{refl}
use native.Mathlib.Omega.{arith}
use Rattle.taking.proofs.Taking.{table-small}
use Rattle.search.proofs.Running.{roomy-own, none-few}
use Rattle.search.proofs.run_wide.Goals as goal

pub run_over-end-requires : goal.run_over-end-requires
run_over-end-requires g c =
    let (all, row) = table-small g.row.W c.requires.2 in
    (all, (row, (c.requires.0, roomy-own g.row.W c.args.p.now _ c.requires.1 c.requires.2, refl)))

pub overflow_mul-s : goal.overflow_mul-s
overflow_mul-s g c = let few = none-few c.args.p.now c.args.allowance c.in-Closed.s c.run_over-end.new.reasons c.requires.0 c.in-Closed.ensures.0.ends in omega (arith, few)

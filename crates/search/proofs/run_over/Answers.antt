-- `search::run_over` meets its contract: the whole search is what was closed so far, and the search from the place; the tables are those of the place. Assumes nothing.
use mathlib.Core.Path.{refl, ◌∙◌}
use Rattle.search.proofs.Running.{start_fine, start-here, depths-none}
use Rattle.search.proofs.run_over.Goals as goal

pub loop-t-init : goal.loop-t-init
loop-t-init g c =
    record {
      fine = start_fine c.args.p.now c.args.allowance _ c.requires.0;
      here = start-here c.args.p.now c.args.allowance _ c.args.reasons.now c.requires.2;
      sized = refl;
      depths = depths-none g.row.W c.args.p.now _ c.args.days.now c.requires.1;
    }

pub loop-t-smaller : goal.loop-t-smaller
loop-t-smaller g c = (c.in-Continue.ensures.0.means _ c.loop-t.invariant.here).nearer

pub loop-t-preserved : goal.loop-t-preserved
loop-t-preserved g c =
    let l = c.loop-t in
    let step = c.in-Continue.ensures.0 in
    let next = step.means _ l.invariant.here in
    record { fine = next.fine; here = next.here; sized = step.sized ∙ l.invariant.sized; depths = c.in-Continue.ensures.1 }

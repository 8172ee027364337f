-- `lamps::panel_of` meets its contract, field by field. Assumes nothing.
use Rattle.lamps.proofs.Panels.{panel-is}
use Rattle.lamps.proofs.panel_of.Goals as goal

pub returns : goal.returns
returns c = panel-is c.args.p.now _ _ c.lit_set-lit.ensures c.counts_of.ensures

-- `lamps::lamps` meets its contract: the panel of the checked problem, or the dark one. Assumes nothing.
use mathlib.Core.Path.{refl, ◌∙◌}
use Rattle.lamps.proofs.Panels.{panel-refused, panel-accepted}
use Rattle.lamps.proofs.lamps.Goals as goal

pub returns-in-Ok : goal.returns-in-Ok
returns-in-Ok c = c.panel_of.ensures ∙ panel-accepted _ _ _ c.in-Ok.ensures.number refl c.in-Ok.ensures.reads.clauses

pub returns-in-Err : goal.returns-in-Err
returns-in-Err c = c.dark_panel.ensures ∙ panel-refused _ _ c.in-Err.ensures.number

-- `lamps::dark_panel` meets its contract. Assumes nothing.
use mathlib.Core.Path.{refl}
use Rattle.meaning.specs.Lamps.{dark}
use Rattle.lamps.proofs.dark_panel.Goals as goal

pub returns : goal.returns
unfolding dark
returns c = rw c.from.ensures refl

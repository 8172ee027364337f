-- `entry_of` meets its contract. Assumes nothing.
use mathlib.Core.Path.{◌∙◌}
use mir.Syntax.{w32}
use mir.Facts.{to_z-of_z}
use Rattle.standing.proofs.Singles.{entry-none, entry-is}
use Rattle.standing.proofs.numbers.entry_of.Goals as goal

pub returns-then-e-ge-NO_WAY : goal.returns-then-e-ge-NO_WAY
returns-then-e-ge-NO_WAY c = entry-none c.args.e c.if-e-ge-NO_WAY.true

pub returns-else-e-ge-NO_WAY : goal.returns-else-e-ge-NO_WAY
returns-else-e-ge-NO_WAY c =
    to_z-of_z {w = w32} {z = c.lowered.result} (record { sfits = c.lowered.type_inv }) ∙ c.lowered.ensures ∙ entry-is c.args.e c.if-e-ge-NO_WAY.false

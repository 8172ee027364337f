-- `lent::lowered` meets its contract. Assumes nothing.
use mathlib.Core.Path.{◌∙◌}
use native.Mathlib.Omega.{arith}
use mir.Syntax.{w32}
use mir.Facts.{to_z-of_z, to_z_pos}
use Rattle.laws.proofs.Differences.{sub_is}
use Rattle.lent.proofs.Signed.{mag-below}
use Rattle.lent.proofs.lowered.Goals as goal

pub overflow_sub-result : goal.overflow_sub-result
overflow_sub-result c =
    rw (to_z_pos w32 {n = c.args.e} (omega arith), to_z_pos w32 {n = c.args.by} (omega arith)) (record { sfits = mag-below c.args.e c.args.by (omega arith) (omega arith) })

pub returns : goal.returns
returns c =
    to_z-of_z (overflow_sub-result c) ∙ rw (to_z_pos w32 {n = c.args.e} (omega arith), to_z_pos w32 {n = c.args.by} (omega arith)) (sub_is c.args.e c.args.by)

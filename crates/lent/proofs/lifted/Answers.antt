-- `lent::lifted` meets its contract. Assumes nothing.
use mathlib.Core.Path.{sym, ap}
use native.Mathlib.Omega.{arith}
use mir.Syntax.{w32}
use mir.Facts.{to_z-of_z, to_z_pos}
use lib.IntN.{nat_abs}
use Rattle.lent.proofs.Signed.{back, sfits_pos}
use Rattle.lent.proofs.lifted.Goals as goal

pub overflow_add-result : goal.overflow_add-result
overflow_add-result c =
    rw (to_z-of_z c.ranges.c, to_z_pos w32 {n = c.args.by} (omega arith)) (sfits_pos w32 _ _ c.requires.1.1.0 (omega arith))

pub overflow_cast-result-2 : goal.overflow_cast-result-2
overflow_cast-result-2 c =
    rw (to_z-of_z c.ranges.c, to_z_pos w32 {n = c.args.by} (omega arith), back w32 _ _ c.requires.1.1.0 (omega arith)) (tt, record { fits = omega arith })

pub returns : goal.returns
returns c =
    rw (to_z-of_z c.ranges.c, to_z_pos w32 {n = c.args.by} (omega arith), back w32 _ _ c.requires.1.1.0 (omega arith)) (sym (ap nat_abs c.requires.1.1.0))

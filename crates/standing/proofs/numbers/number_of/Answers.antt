-- `number_of` meets its contract. Assumes nothing.
use mathlib.Core.Path.{sym, ap, ◌∙◌}
use Prim.Native.Nat.{◌≤◌}
use native.Mathlib.Omega.{arith}
use mir.Syntax.{w32}
use mir.Val.{to_z, of_z}
use mir.Facts.{to_z-of_z}
use lib.IntN.{nat_abs}
use Rattle.laws.proofs.Integers.{lifts-by}
use Rattle.problem.specs.Arcs.{farthest}
use Rattle.distances.specs.Numbers.{middle}
use Rattle.standing.proofs.Singles.{number-none, number-out, number_is}
use Rattle.standing.proofs.numbers.number_of.Goals as goal

pub returns-then-z-eq-NO_ENTRY : goal.returns-then-z-eq-NO_ENTRY
returns-then-z-eq-NO_ENTRY c = number-none c.args.z (sym (to_z-of_z c.ranges.z) ∙ ap (to_z w32) c.if-z-eq-NO_ENTRY.true)

pub returns-then-unsigned_abs-gt-FARTHEST : goal.returns-then-unsigned_abs-gt-FARTHEST
returns-then-unsigned_abs-gt-FARTHEST c =
    let size = rw (to_z-of_z c.ranges.z) at c.unsigned_abs.ensures.value in
    number-out c.args.z (λ e. c.if-z-eq-NO_ENTRY.false (ap (of_z w32) e)) (omega arith)

pub lifted-requires : goal.lifted-requires
lifted-requires c =
    let size = rw (to_z-of_z c.ranges.z) at c.unsigned_abs.ensures.value in
    let l = lifts-by middle c.args.z (omega arith) in
    rw (to_z-of_z c.ranges.z) (omega arith, (l.b, (l.is, omega (arith, l.small))))

pub returns : goal.returns
returns c =
    let size = rw (to_z-of_z c.ranges.z) at c.unsigned_abs.ensures.value in
    let near : nat_abs c.args.z ≤ farthest = omega arith in
    (rw (to_z-of_z c.ranges.z) at c.lifted.ensures) ∙ number_is c.args.z near

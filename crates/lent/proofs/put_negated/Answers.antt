-- `lent::put_negated` meets its contract.
use Rattle.std.proofs.Common.{◌≡◌, ◌<◌, map, ℕ, get_or, pos, neg_ℤ, ◌-ℤ◌, ◌∙◌, arith, to_z, of_z, w32, FitsSigned}
use mir.Facts.{to_z-of_z, to_z_pos}
use lib.IntN.{+ℤ_idl}
use lib.ListN.{length-map, get_or-map}
use Rattle.lent.specs.Sizes.{signed_end}
use Rattle.lent.proofs.Signed.{mag-minus}
use Rattle.lent.proofs.Writing.{write-more}
use Rattle.lent.proofs.put_negated.Invariants.{minus}
use Rattle.lent.proofs.put_negated.Goals as goal

pub loop-i-preserved : goal.loop-i-preserved
loop-i-preserved c =
    let d = c.args.d.now in
    let i = c.loop-i.i in
    let m : ℕ = get_or d i 0 in
    let l : m < signed_end = c.requires.by_index i c.loop-i-test.true in
    let signed : to_z w32 m ≡ pos m = to_z_pos w32 {n = m} l in
    let fits : FitsSigned w32 (pos 0 -ℤ pos m) = record { sfits = omega (arith, mag-minus m) } in
    let e : to_z w32 (of_z w32 (pos 0 -ℤ to_z w32 m)) ≡ get_or (map minus d) i (pos 0) =
    rw (signed, get_or-map minus d i 0) (to_z-of_z fits ∙ +ℤ_idl (neg_ℤ (pos m))) in
    write-more i _ (pos 0) _ (map minus d) c.args.s.now c.loop-i.invariant (simp length-map (omega arith)) (omega arith) e

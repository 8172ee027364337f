-- `put_signed` meets its contract: a number below 0 is a - and its size.
use Rattle.std.proofs.Common.{◌≡◌, true, false, pos, nat_abs, [], ◌∷◌}
use lib.Signed.{lt_z}
use mir.Facts.{to_z-of_z}
use Rattle.dialogue.proofs.Signs.{text-below, text-from}
use Rattle.dialogue.proofs.Puts.{puts_then}
use Rattle.dialogue.proofs.writing.Writer.put_signed.Goals as goal
use Rattle.dialogue.proofs.writing.Writer.put_signed.Goals.{then-z-lt0, else-z-lt0}

pub returns : goal.returns
returns c =
    let z = c.args.z in
    let n : c.unsigned_abs-n.result ≡ nat_abs z = rw (to_z-of_z c.ranges.z) at c.unsigned_abs-n.ensures.value in
    let digits = rw n at c.put_number.ensures in
    elim c.if-z-lt0.branch [
      | then-z-lt0 w ↦ let e : lt_z z (pos 0) ≡ true = rw (to_z-of_z c.ranges.z) at w.if-z-lt0.true in rw (text-below z e) (puts_then {t = 45 ∷ []} (rw w.self-is w.put.ensures) digits)
      | else-z-lt0 w ↦ let e : lt_z z (pos 0) ≡ false = rw (to_z-of_z c.ranges.z) at w.if-z-lt0.false in rw (text-from z e) (rw w.self-is at digits)
    ]

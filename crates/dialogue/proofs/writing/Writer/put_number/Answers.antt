-- `put_number` meets its contract: the digits that the library makes are the number's. Assumes nothing.
use mathlib.Core.Path.{◌≡◌, ◌∙◌}
use native.Mathlib.Omega.{arith}
use lib.ListN.{take}
use Rattle.dialogue.specs.Written.{decimal}
use Rattle.dialogue.proofs.Decimals.{digits_decimal, places-fit}
use Rattle.dialogue.proofs.writing.Writer.put_number.Goals as goal

pub returns : goal.returns
returns c =
    let n = c.args.n in
    let t : take c.decimal-k.result c.decimal-k.new.out ≡ decimal n = c.decimal-k.ensures.digits ∙ digits_decimal 20 c.decimal-k.result n (places-fit n c.decimal-k.result (omega arith) c.decimal-k.ensures.len) c.decimal-k.ensures.len in
    rw (← t) c.put.ensures

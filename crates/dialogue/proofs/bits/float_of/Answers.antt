-- `float_of` meets its contract: the patterns that are a NaN's are told apart by the tests. Assumes nothing.
use mathlib.Core.Path.{◌∙◌, sym}
use Rattle.dialogue.proofs.Patterns.{is_nan, of_nan, field_below, no_digit}
use Rattle.dialogue.proofs.bits.float_of.Goals as goal
use Rattle.dialogue.proofs.bits.float_of.Goals.{else-bits-eq-ONES-via-then-bits-eq-ONES+else-bits-gt0, else-bits-eq-ONES-via-else-bits-eq-ONES}

pub returns-then-bits-gt0 : goal.returns-then-bits-gt0
returns-then-bits-gt0 c = is_nan ∙ sym (of_nan c.args.bits c.if-bits-eq-ONES.true c.if-bits-gt0.true)

pub float_from_bits-result : goal.float_from_bits-result
float_from_bits-result c =
    let b = c.args.bits in
    elim c.else-bits-eq-ONES.branch [
      | else-bits-eq-ONES-via-then-bits-eq-ONES+else-bits-gt0 w ↦ no_digit b w.if-bits-eq-ONES.true w.if-bits-gt0.false
      | else-bits-eq-ONES-via-else-bits-eq-ONES w ↦ field_below b w.if-bits-eq-ONES.false
    ]

-- A number that is at most 255 is a byte. Assumes nothing.
use native.Mathlib.Omega.{arith}
use Rattle.dialogue.proofs.Spelling.{most-read}
use Rattle.dialogue.proofs.reading.U8Spelled.spelled.Goals as goal

pub overflow_cast-result : goal.overflow_cast-result
overflow_cast-result c = omega (arith, most-read 255 c.args.word.now c.in_ok-value.ensures)

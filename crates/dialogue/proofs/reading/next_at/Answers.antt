-- `next_at` meets its contract: a number's word is not empty, so it ends within the line. Assumes nothing.
use native.Mathlib.Omega.{arith}
use Rattle.dialogue.proofs.Spelling.{word_ends}
use Rattle.dialogue.proofs.reading.next_at.Goals as goal

pub overflow_add-result : goal.overflow_add-result
overflow_add-result g c =
    omega (arith, word_ends c.args.line.now c.args.at g.T.Spelled.spelled g.met.T.Spelled.full _ _ c.word_at-word.ensures c.in_ok-value.ensures)

pub overflow_add-result-2 : goal.overflow_add-result-2
overflow_add-result-2 g c =
    omega (arith, word_ends c.args.line.now c.args.at g.T.Spelled.spelled g.met.T.Spelled.full _ _ c.word_at-word.ensures c.in_ok-value.ensures)

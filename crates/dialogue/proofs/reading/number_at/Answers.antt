-- `number_at` meets its contract: a number among all is one among fewer where it is not too large. Assumes nothing.
use native.Mathlib.Omega.{arith}
use Rattle.dialogue.specs.Words.{after_word, word_at, unsigned_of}
use Rattle.dialogue.proofs.Spelling.{narrower, narrower_none, narrower-over}
use Rattle.dialogue.proofs.Placing.{placed-some, placed_none}
use Rattle.dialogue.proofs.reading.number_at.Goals as goal

pub returns-in_err-value : goal.returns-in_err-value
returns-in_err-value c =
    let a = c.args in
    let w = word_at a.line.now a.at in
    let e = placed_none (after_word a.line.now a.at) (unsigned_of 0xffffffff w) c.in_err-value.ensures in
    rw (c.from_residual.ensures, narrower_none a.most 0xffffffff 0 w (omega arith) e)

pub returns-then-most-value : goal.returns-then-most-value
returns-then-most-value c =
    let a = c.args in
    let w = word_at a.line.now a.at in
    let e = placed-some (after_word a.line.now a.at) (unsigned_of 0xffffffff w) _ _ c.in_ok-value.ensures in
    rw (narrower-over a.most 0xffffffff c.in_ok-value.value w (omega arith) e.spelled c.if-most-value.true)

pub returns : goal.returns
returns c =
    let a = c.args in
    let w = word_at a.line.now a.at in
    let e = placed-some (after_word a.line.now a.at) (unsigned_of 0xffffffff w) _ _ c.in_ok-value.ensures in
    rw (narrower a.most 0xffffffff c.in_ok-value.value w (omega arith) e.spelled c.if-most-value.false, e.ends)

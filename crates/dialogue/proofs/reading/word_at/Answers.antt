-- `word_at` meets its contract. Assumes nothing.
use native.Mathlib.Omega.{arith}
use lib.ListN.{get_or-eq_default}
use Rattle.dialogue.proofs.Spelling.{word-led, word_none}
use Rattle.dialogue.proofs.reading.word_at.Goals as goal
use Rattle.dialogue.proofs.reading.word_at.Goals.{else-at-line-via-then-at-line+else-line-at-eq32, else-at-line-via-else-at-line}

pub returns-then-line-at-eq32 : goal.returns-then-line-at-eq32
returns-then-line-at-eq32 c = word-led c.args.line.now c.args.at c.until.result c.if-line-at-eq32.true c.until.ensures.value

pub returns : goal.returns
returns c =
    let a = c.args in
    word_none a.line.now a.at
    (elim c.else-at-line.branch [
      | else-at-line-via-then-at-line+else-line-at-eq32 w ↦ w.if-line-at-eq32.false
      | else-at-line-via-else-at-line w ↦ (λ e. omega (arith, get_or-eq_default a.line.now 0 w.if-at-line.false))
    ])

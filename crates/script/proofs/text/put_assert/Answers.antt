-- `put_assert` meets its contract: one text after another.
use Rattle.grammar.specs.Grammar.{bytes}
use Rattle.dialogue.proofs.Puts.{puts_then}
use Rattle.script.specs.Text.{assert_of}
use Rattle.script.proofs.text.put_assert.Goals as goal

pub returns : goal.returns
unfolding assert_of bytes
returns c = puts_then c.put.ensures (puts_then c.put_held.ensures c.put-2.ensures)

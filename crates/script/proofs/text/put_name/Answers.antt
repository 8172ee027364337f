-- `put_name` meets its contract: one text after another.
use Rattle.grammar.specs.Grammar.{bytes}
use Rattle.dialogue.proofs.Puts.{puts_then}
use Rattle.script.specs.Text.{name_of}
use Rattle.script.proofs.text.put_name.Goals as goal

pub returns : goal.returns
unfolding name_of bytes
returns c = puts_then c.put.ensures c.put_number.ensures

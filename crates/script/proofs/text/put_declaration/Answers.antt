-- `put_declaration` meets its contract: one text after another.
use Rattle.grammar.specs.Grammar.{bytes}
use Rattle.dialogue.proofs.Puts.{puts_then}
use Rattle.script.specs.Text.{declaration_of}
use Rattle.script.proofs.text.put_declaration.Goals as goal

pub returns : goal.returns
unfolding declaration_of bytes
returns c = puts_then c.put.ensures (puts_then c.put_name.ensures c.put-2.ensures)

-- `put_text` meets its contract: one text after another.
use Rattle.grammar.specs.Grammar.{bytes}
use Rattle.meaning.specs.Screen.{clauses_of}
use Rattle.dialogue.proofs.Puts.{puts_then}
use Rattle.script.specs.Text.{text_of}
use Rattle.script.proofs.text.put_text.Goals as goal

pub returns : goal.returns
unfolding text_of clauses_of bytes
returns c = puts_then c.put.ensures (puts_then c.put_declarations.ensures (puts_then c.put_asserts.ensures c.put-2.ensures))

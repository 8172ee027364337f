-- `put_declarations` meets its contract: the declarations that remain are fewer by one after each turn.
use Rattle.std.proofs.Common.{arith}
use Rattle.dialogue.proofs.Puts.{remains_on, remains-none}
use Rattle.script.proofs.Putting.{declarations-on, declarations-off}
use Rattle.script.proofs.text.put_declarations.Goals as goal

pub loop-e-preserved : goal.loop-e-preserved
loop-e-preserved c = remains_on (rw (declarations-on c.loop-e.e c.args.n (omega arith)) at c.loop-e.invariant) (rw c.from.ensures at c.put_declaration.ensures)

pub returns : goal.returns
returns c = remains-none (rw (declarations-off c.loop-e.e c.args.n (omega arith)) at c.loop-e.invariant)

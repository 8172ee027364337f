-- `put_three` meets its contract: one text after another.
use Rattle.dialogue.proofs.Puts.{puts_then}
use Rattle.exchange.proofs.replies.put_three.Goals as goal

pub returns : goal.returns
returns c = puts_then c.put_two.ensures c.put_next.ensures

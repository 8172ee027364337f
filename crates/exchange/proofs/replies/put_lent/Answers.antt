-- `put_lent` meets its contract: one text after another.
use Rattle.dialogue.proofs.Puts.{puts_then}
use Rattle.exchange.proofs.replies.put_lent.Goals as goal

pub returns : goal.returns
returns c = puts_then (puts_then c.put_room.ensures c.put_room-2.ensures) c.put_room-3.ensures

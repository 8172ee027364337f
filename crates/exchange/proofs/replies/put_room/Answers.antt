-- `put_room` meets its contract: one text after another.
use Rattle.dialogue.proofs.Puts.{puts_then}
use Rattle.exchange.proofs.replies.put_room.Goals as goal

pub returns : goal.returns
returns g c = puts_then c.put_bar.ensures c.put_list.ensures

-- `put_bound` meets its contract: by the case of the answer.
use borrow.Author.Rules.{rules}
use mir.Syntax.{w32}
use mir.Val.{SFits}
use mir.Facts.{to_z-of_z}
use Rattle.dialogue.proofs.Puts.{puts_then}
use Rattle.exchange.proofs.replies.put_bound.Goals as goal

pub returns-in-Ok : goal.returns-in-Ok
returns-in-Ok c =
    let f : SFits w32 c.in-Ok.bound = search rules in
    rw c.in-Ok.is (puts_then c.put.ensures (rw (to_z-of_z f) at c.put_signed.ensures))

-- `put` meets its contract: after each turn the bytes so far are written; where the buffer is full, the others change nothing.
use Rattle.std.proofs.Common.{refl, drop, take-append-drop, take_all, get_or, arith}
use Rattle.std.proofs.lemmas.List.{take_more}
use Rattle.dialogue.proofs.Puts.{puts-none, puts_full, puts-byte, puts_then}
use Rattle.dialogue.proofs.writing.Writer.put.Goals as goal

pub loop-byte-init : goal.loop-byte-init
loop-byte-init c = puts-none c.args.self.now

pub returns-then-self : goal.returns-then-self
returns-then-self c =
    let l = c.loop-byte in
    rw (take-append-drop l.byte-index c.args.text.now) at (puts_then l.invariant (puts_full l.self (drop l.byte-index c.args.text.now) (omega arith)))

pub loop-byte-preserved : goal.loop-byte-preserved
loop-byte-preserved c =
    let l = c.loop-byte in
    let t = c.args.text.now in
    rw (take_more t l.byte-index 0 (omega arith)) (puts_then l.invariant (puts-byte l.self (get_or t l.byte-index 0) (omega arith) refl refl refl))

pub returns : goal.returns
returns c = rw (take_all c.loop-byte.byte-index c.args.text.now (omega arith)) at c.loop-byte.invariant

-- `put_list` meets its contract: after each turn the numbers so far are written.
use Rattle.std.proofs.Common.{arith, take_all}
use Rattle.dialogue.specs.Written.{led}
use Rattle.dialogue.proofs.Puts.{puts-none, puts_then, led-more}
use Rattle.dialogue.proofs.writing.Writer.put_list.Goals as goal

pub loop-number-init : goal.loop-number-init
unfolding led
loop-number-init g c = puts-none c.args.self.now

pub loop-number-preserved : goal.loop-number-preserved
loop-number-preserved g c =
    let l = c.loop-number in
    rw (led-more g.T.Decimal.decimal c.args.list.now l.number-index c.number-item.result (omega arith))
    (puts_then l.invariant (puts_then c.put.ensures (rw c.number-item.is at c.put_decimal.ensures)))

pub returns : goal.returns
returns g c = rw (take_all c.loop-number.number-index c.args.list.now c.loop-number-test.false) at c.loop-number.invariant

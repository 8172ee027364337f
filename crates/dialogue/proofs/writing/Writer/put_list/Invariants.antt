use Rattle.std.proofs.Common.{map, take}
use Rattle.dialogue.specs.Written.{led}
use Rattle.dialogue.specs.Puts.{Puts}
use Rattle.dialogue.proofs.writing.Writer.put_list.Given as goal

-- the numbers so far are written
abbrev pub invariant-loop-number : goal.invariant-loop-number
invariant-loop-number g l = Puts l.initial.self l.self (led (map g.T.Decimal.decimal (take l.number-index l.list)))

use Rattle.std.proofs.Common.{take}
use Rattle.dialogue.specs.Puts.{Puts}
use Rattle.dialogue.proofs.writing.Writer.put.Given as goal

-- the bytes so far are written
abbrev pub invariant-loop-byte : goal.invariant-loop-byte
invariant-loop-byte l = Puts l.initial.self l.self (take l.byte-index l.text)

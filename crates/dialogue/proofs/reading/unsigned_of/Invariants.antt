-- `unsigned_of` meets its contract: the digits that remain, begun from the value so far, give the same answer. Assumes nothing.
use Prim.Native.Nat.{◌≤◌}
use mathlib.Core.Path.{◌≡◌}
use lib.ListN.{drop}
use Rattle.dialogue.specs.Words.{unsigned_of, digits_from}
use Rattle.dialogue.proofs.reading.unsigned_of.Given as goal

abbrev pub invariant-loop-b : goal.invariant-loop-b
invariant-loop-b l = record { within : l.value ≤ l.most; remains : unsigned_of l.most l.word ≡ digits_from l.most l.value (drop l.b-index l.word) }

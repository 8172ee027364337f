-- `script::script_from` meets its contract: what remains, read from what was read, gives the same answer. Assumes nothing.
use Prim.Native.Nat.{◌-◌}
use lib.ListN.{length}
use Rattle.script.proofs.Going.{Going}
use Rattle.script.proofs.plain.script_from.Given as goal

abbrev pub invariant-loop-part : goal.invariant-loop-part
invariant-loop-part l = Going l.text l.at l.from l.state l.notes

abbrev pub decreases-loop-part : goal.decreases-loop-part
decreases-loop-part l = length l.text - l.from

-- `serve_lines` meets its contract: a line lies within the text. Assumes nothing.
use Rattle.std.proofs.Common.{length, ◌-◌, ◌≤◌, IfSome}
use Rattle.table.proofs.serve_lines.Given as goal

abbrev pub invariant-loop-end : goal.invariant-loop-end
invariant-loop-end l = record { within : l.end ≤ length l.text; after : IfSome l.served (λ start. start ≤ l.end) }

abbrev pub decreases-loop-end : goal.decreases-loop-end
decreases-loop-end l = length l.text - l.end

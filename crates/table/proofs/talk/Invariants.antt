-- `talk` is safe and ends: what is kept lies within the text. Assumes nothing.
use Rattle.std.proofs.Common.{length, ◌≤◌, IfSome}
use Rattle.table.proofs.talk.Given as goal

abbrev pub invariant-loop : goal.invariant-loop
invariant-loop l = IfSome l.kept (λ bytes. bytes ≤ length l.text)

use Rattle.std.proofs.Common.{◌-◌}
use Rattle.dialogue.proofs.Puts.{Remains}
use Rattle.script.specs.Text.{declarations_from}
use Rattle.script.proofs.text.put_declarations.Given as goal

-- the declarations of the events from e on remain
abbrev pub invariant-loop-e : goal.invariant-loop-e
invariant-loop-e l = Remains l.initial.out l.out (declarations_from 0 l.n) (declarations_from l.e (l.n - l.e))

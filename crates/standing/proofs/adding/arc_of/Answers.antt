-- `arc_of` meets its contract. Assumes nothing.
use mathlib.Core.Path.{refl}
use Rattle.standing.specs.Numbers.{arc_number}
use Rattle.standing.proofs.adding.arc_of.Goals as goal

pub returns-then-opposite : goal.returns-then-opposite
unfolding arc_number
returns-then-opposite c = rw c.if-opposite.true refl

pub returns-else-opposite : goal.returns-else-opposite
unfolding arc_number
returns-else-opposite c = rw c.if-opposite.false refl

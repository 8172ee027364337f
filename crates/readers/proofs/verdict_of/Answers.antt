-- `readers::verdict_of` meets its contract. Assumes nothing.
use Rattle.std.proofs.Common.{refl}
use Rattle.meaning.specs.Verdicts.{verdict}
use Rattle.readers.proofs.verdict_of.Goals as goal

pub returns-in-Ok-true : goal.returns-in-Ok-true
unfolding verdict
returns-in-Ok-true c = rw (c.in-Ok-true.is, c.in-Ok-true.field-0-test) refl

pub returns-in-Ok-false : goal.returns-in-Ok-false
unfolding verdict
returns-in-Ok-false c = rw (c.in-Ok-false.is, c.in-Ok-false.field-0-test) refl

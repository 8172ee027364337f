-- `day_refusal` meets its contract. Assumes nothing.
use mathlib.Core.Path.{◌∙◌, refl, sym}
use Rattle.meaning.specs.Screen.{first_failed}
use Rattle.standing.specs.Standing.{table_tests}
use Rattle.standing.proofs.check.day_refusal.Goals as goal

pub returns-then-not-is_size : goal.returns-then-not-is_size
unfolding table_tests first_failed
returns-then-not-is_size c = rw (sym c.is_size.ensures ∙ c.if-not-is_size.true) refl

pub returns-then-not-is_table : goal.returns-then-not-is_table
unfolding table_tests first_failed
returns-then-not-is_table c =
    rw (sym c.is_size.ensures ∙ c.if-not-is_size.false, sym c.is_table.ensures ∙ c.if-not-is_table.true) refl

pub returns : goal.returns
unfolding table_tests first_failed
returns c = rw (sym c.is_size.ensures ∙ c.if-not-is_size.false, sym c.is_table.ensures ∙ c.if-not-is_table.false) refl

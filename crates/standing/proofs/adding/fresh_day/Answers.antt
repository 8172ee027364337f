-- `fresh_day` meets its contract. Assumes nothing.
use mathlib.Core.Path.{refl, sym, ◌∙◌}
use Rattle.meaning.specs.Screen.{first_failed}
use Rattle.standing.specs.Standing.{begun, fresh_day}
use Rattle.standing.proofs.adding.fresh_day.Goals as goal

pub returns-then-not-is_size : goal.returns-then-not-is_size
unfolding fresh_day begun first_failed
returns-then-not-is_size c = rw (c.no_facts.ensures, sym c.is_size.ensures ∙ c.if-not-is_size.true, c.from.ensures) refl

pub returns : goal.returns
unfolding fresh_day begun first_failed
returns c = rw (c.no_facts-2.ensures, sym c.is_size.ensures ∙ c.if-not-is_size.false) refl

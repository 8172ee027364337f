-- `put_script_refused` meets its contract: by whether the refusal has a place.
use borrow.Author.Tests.{eq-eqb, ne_eqb}
use Rattle.exchange.specs.Replies.{script_refused_text}
use Rattle.exchange.proofs.replies.put_script_refused.Goals as goal

pub returns-then-number-eq-WITH_PLACE : goal.returns-then-number-eq-WITH_PLACE
unfolding script_refused_text
returns-then-number-eq-WITH_PLACE c = rw (eq-eqb _ 20 c.if-number-eq-WITH_PLACE.true) c.put_refused_at.ensures

pub returns-else-number-eq-WITH_PLACE : goal.returns-else-number-eq-WITH_PLACE
unfolding script_refused_text
returns-else-number-eq-WITH_PLACE c = rw (ne_eqb _ 20 c.if-number-eq-WITH_PLACE.false) c.put_refused.ensures

-- `look` finds the first row of the fewest facts from an event: the rounds to it tell whether there is one, and the front that is led on is it. Assumes nothing.
use Rattle.meaning.specs.Limits.{most_events}
use Rattle.shortest.proofs.Reaching.{kept-within}
use Rattle.shortest.proofs.Targets.{closes-none}
use Rattle.shortest.proofs.look.Goals as goal

pub returns-in_err-rounds : goal.returns-in_err-rounds
returns-in_err-rounds c =
    rw c.from_residual.ensures
    (record { some = tt; none = λ _. closes-none _ _ _ c.args.size _ (kept-within _ _ most_events c.requires.0) c.requires.1 c.in_err-rounds.ensures })

-- `test_from` answers as its rounds do: whether the last one raised no event, and the times before it. Assumes nothing.
use native.Mathlib.Omega.{arith}
use Rattle.facts.proofs.Deciding.{tests-from, none-from}
use Rattle.facts.proofs.test_from.Goals as goal

pub returns-in-Some : goal.returns-in-Some
returns-in-Some c =
    none-from _ _ c.args.n c.requires.0 c.requires.1 c.args.start (omega (arith, c.well_formed)) c.requires.4 _ c.put_rounds-k.result c.put_rounds-k.ensures.0 _ c.in-Some.ensures

pub returns-in-None : goal.returns-in-None
returns-in-None c =
    tests-from _ _ c.args.n c.requires.0 c.requires.1 c.args.start (omega (arith, c.well_formed)) c.requires.4 _ c.put_rounds-k.result c.put_rounds-k.ensures.0 c.in-None.ensures

-- `test` is the test from the extra source, and the meaning's decision. Assumes nothing.
use borrow.Author.Rules.{rules}
use Rattle.facts.proofs.Joining.{joined}
use Rattle.facts.proofs.test.Goals as goal

pub returns : goal.returns
returns c =
    joined _ _ c.args.n c.requires.0 c.requires.1 c.requires.2 c.test_from.result (search rules) c.test_from.ensures

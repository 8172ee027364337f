-- `readers::is_blank` meets its contract. Assumes nothing.
use Rattle.std.proofs.Common.{rules, eqb, ◌∙◌}
use borrow.Author.Tests.{tests}
use Rattle.std.proofs.lemmas.Iterator.{YieldsList-from_slice}
use Rattle.std.proofs.lemmas.Iterator.Search.{all_from_yields_List}
use Rattle.meaning.specs.Limits.{blank_byte}
use Rattle.readers.proofs.Bytes.{all-blank}
use Rattle.readers.proofs.is_blank.Goals as goal

pub returns : goal.returns
returns c =
    all_from_yields_List (λ b. eqb b blank_byte) _ _ _ c.all.ensures.ran (YieldsList-from_slice c.args.bytes.now cc) (λ x b q k. search (rules, tests))
    ∙ all-blank c.args.bytes.now

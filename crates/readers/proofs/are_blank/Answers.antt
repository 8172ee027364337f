-- `readers::are_blank` meets its contract. Assumes nothing.
use Rattle.std.proofs.Common.{rules, ◌∙◌}
use borrow.Author.Tests.{tests}
use Rattle.std.proofs.lemmas.Iterator.{YieldsList-from_slice}
use Rattle.std.proofs.lemmas.Iterator.Search.{all_from_yields_List}
use Rattle.meaning.specs.Limits.{row_bytes}
use Rattle.meaning.specs.Reasons.{blank}
use Rattle.readers.proofs.Bytes.{rows-blank}
use Rattle.readers.proofs.are_blank.Goals as goal

pub returns : goal.returns
returns c =
    all_from_yields_List blank _ _ _ c.all.ensures.ran (YieldsList-from_slice c.args.rows.now cc) (λ x b q k. search (rules, tests))
    ∙ rows-blank row_bytes c.args.rows.now

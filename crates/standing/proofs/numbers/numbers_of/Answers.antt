-- `numbers_of` meets its contract. Assumes nothing.
use borrow.Author.Rules.{rules}
use Rattle.standing.specs.Entries.{no_entry}
use Rattle.standing.proofs.numbers.numbers_of.Goals as goal

pub returns : goal.returns
returns c =
    record {
      long = c.map.ensures.items.long;
      each = λ k l. let (f, g, called) = c.map.ensures.items.at k no_entry 0 l in search rules;
    }

-- `readers::row_len` meets its contract: the first 255 of the row stands after its numbers. Assumes nothing.
use Rattle.std.proofs.Common.{rules, ◌≡◌, ◌≢◌, ℕ, length, sym, ◌∙◌}
use borrow.Author.Tests.{tests}
use Rattle.std.proofs.lemmas.Iterator.{YieldsList-from_slice, IsFirst-from_position, index_from_first}
use Rattle.meaning.specs.Limits.{blank_byte}
use Rattle.meaning.specs.Reasons.{numbers}
use Rattle.readers.proofs.Marks.{numbers-none, numbers-end, numbers_more}
use Rattle.readers.proofs.row_len.Goals as goal

pub returns : goal.returns
returns c =
    let row = c.args.row.now in
    c.unwrap_or.ensures
    ∙ sym
    (index_from_first (λ l. length (numbers l)) (λ (b : ℕ). b ≡ blank_byte) (λ b. b ≢ blank_byte) numbers-none numbers-end numbers_more row _
    (IsFirst-from_position _ _ _ (λ (b : ℕ). b ≡ blank_byte) (λ b. b ≢ blank_byte) c.position.ensures.ran (YieldsList-from_slice row cc) (λ x q k. search (rules, tests)) (λ x q k. search (rules, tests))))

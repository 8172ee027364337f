-- The list of reasons as it is written, row after row: 01, "The list of reasons", with the cycle rows of 02, A7. A row is W bytes. Definitions only.
use Rattle.std.specs.Prelude.{List, [], ◌∷◌, ◌++◌, ℕ, ◌-◌, length, take, replicate}
use Rattle.meaning.specs.Limits.{blank_byte}
use Rattle.meaning.specs.Search.{Row, mark, cycle}
use Rattle.meaning.specs.Reasons.{mark_row}
use Rattle.meaning.specs.Shortest.{shortest}

module _ (W : ℕ) where
  -- numbers, "then 255s", W bytes in all
  unfoldable pub padded : List ℕ → List ℕ
  padded l = take W (l ++ replicate W blank_byte)

  -- a mark, or the shortest reason of the facts
  unfoldable pub row_of : Row → List ℕ
  row_of (mark b) = mark_row W b
  row_of (cycle fs) = padded (shortest fs)

  -- "rows are written in the order of the search"
  unfoldable pub listing : List Row → List ℕ
  listing [] = []
  listing (r ∷ rows) = row_of r ++ listing rows

  -- "the rows, then 255s", in so much room
  unfoldable pub rows_in : ℕ → List Row → List ℕ
  rows_in room rows = listing rows ++ replicate (room - length (listing rows)) blank_byte

-- Rows written to lent memory as the search goes, as long as they fit. Definitions only.
use Rattle.std.specs.Prelude.{◌≡◌, cond, List, ◌++◌, ℕ, ◌+◌, ◌*◌, ◌≤◌, leb, length, take, drop}
use Rattle.meaning.specs.Limits.{row_bytes}
use Rattle.meaning.specs.Search.{Row}
use Rattle.meaning.specs.Listing.{rows_in}

-- row number k of the bytes replaced, where they have room for it
unfoldable pub put_row : List ℕ → ℕ → List ℕ → List ℕ
put_row bytes k row = cond (leb (k * row_bytes + row_bytes) (length bytes)) (take (k * row_bytes) bytes ++ (row ++ drop (k * row_bytes + length row) bytes)) bytes

-- as long as the rows fit, the reasons list them
pub record Kept (room : ℕ) (rows : List Row) (reasons : List ℕ) : Type 0 where
  pub size : length reasons ≡ room
  pub lists : length rows * row_bytes ≤ room → reasons ≡ rows_in row_bytes room rows

-- what was kept before is kept with the rows `more` after it
pub record Keeps (before after : List ℕ) (count : ℕ) (more : List Row) : Type 0 where
  pub keeps : (rows : List Row) → length rows ≡ count → Kept (length before) rows before → Kept (length before) (rows ++ more) after

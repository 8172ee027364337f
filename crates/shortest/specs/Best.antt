-- The first of the closed rows of one size from several events: that from the event whose row has the smallest first number. Definitions only.
use Rattle.std.specs.Prelude.{◌≡◌, Option, IsNone, IfSome, List, ℕ, ◌≤◌, ◌<◌, length}
use Rattle.std.specs.Option.{IsSomeAnd}
use Rattle.problem.specs.Arcs.{Net, at}
use Rattle.shortest.specs.Paths.{From}
use Rattle.shortest.specs.Leading.{RowFrom}

-- what is found from t: the first closed row of `size` facts, if there is one
pub record Looks (g : Net) (L : List ℕ) (t size : ℕ) (found : Option (List ℕ)) : Type 0 where
  pub some : IfSome found (RowFrom g L t size)
  pub none : IsNone found → (m : List ℕ) → From g L t m → size < length m

-- a number goes before a row that is there: it is smaller than the row's first
abbrev pub GoesBefore : ℕ → Option (List ℕ) → Type 0
GoesBefore j best = IfSome best (λ row. j < at row 0)

-- a row that was found from an event below t
pub record RowBelow (g : Net) (L : List ℕ) (t size : ℕ) (row : List ℕ) : Type 0 where
  pub event : ℕ
  pub below : event < t
  pub found : RowFrom g L event size row

-- the best of those from events below t: it is there if any is, and no closed row of `size` facts starts with a smaller number
pub record Best (g : Net) (L : List ℕ) (t size : ℕ) (best : Option (List ℕ)) : Type 0 where
  pub some : IfSome best (RowBelow g L t size)
  pub least : (v : ℕ) → v < t → (m : List ℕ) → From g L v m → length m ≡ size → IsSomeAnd best (λ row. at row 0 ≤ at m 0)

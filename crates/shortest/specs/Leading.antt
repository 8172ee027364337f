-- What leads a row of facts on: an arc to an event that lies high enough, the smallest number of a fact that is one, and the row that such numbers make; and the smallest number that a row from an event may start with. Definitions only.
use Rattle.std.specs.Prelude.{◌≡◌, Option, IfSome, List, ℕ, ◌+◌, ◌≤◌, ◌<◌, length}
use Rattle.std.specs.Option.{IsSomeAnd}
use Rattle.meaning.specs.Limits.{row_bytes}
use Rattle.meaning.specs.Listing.{padded}
use Rattle.problem.specs.Arcs.{Net, head, tail, bound, bias, at}
use Rattle.facts.specs.Tests.{IsFact}
use Rattle.shortest.specs.Paths.{FirstFrom}

-- arc j leads on from u to an event of the heights s that lies higher than what is needed
pub record Leads (g : Net) (s : List ℕ) (u need j : ℕ) : Type 0 where
  pub from : tail g j ≡ u
  pub enough : need + bound g j < at s (head g j) + bias

-- so does fact j
pub record Fits (g : Net) (L s : List ℕ) (u need j : ℕ) : Type 0 where
  pub fact : IsFact L j
  pub leads : Leads g s u need j

-- the smallest number of such a fact, if there is one
pub record Picks (g : Net) (L s : List ℕ) (u need : ℕ) (pick : Option ℕ) : Type 0 where
  pub some : IfSome pick (Fits g L s u need)
  pub least : (j : ℕ) → Fits g L s u need j → IsSomeAnd pick (λ r. r ≤ j)

-- the smallest number of a fact from event t, if there is one
pub record Lowest (g : Net) (L : List ℕ) (t : ℕ) (low : Option ℕ) : Type 0 where
  pub some : IfSome low (λ r. IsFact L r × (tail g r ≡ t))
  pub least : (j : ℕ) → IsFact L j → tail g j ≡ t → IsSomeAnd low (λ r. r ≤ j)

-- the first row from t, of `size` numbers, then 255s
pub record RowFrom (g : Net) (L : List ℕ) (t size : ℕ) (row : List ℕ) : Type 0 where
  pub list : List ℕ
  pub first : FirstFrom g L t list
  pub long : length list ≡ size
  pub bytes : row ≡ padded row_bytes list

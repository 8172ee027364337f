-- Two facts that lead from an event to another and back. Definitions only.
use Rattle.std.specs.Prelude.{◌≡◌, Option, IsNone, IfSome, List, map, ℕ, ◌+◌, ◌*◌, ◌≤◌, ◌<◌}
use Rattle.std.specs.Option.{IsSomeAnd}
use Rattle.meaning.specs.Limits.{row_bytes}
use Rattle.meaning.specs.Search.{cycle}
use Rattle.meaning.specs.Listing.{row_of}
use Rattle.problem.specs.Arcs.{Net, head, tail, bound, bias, at, arc}
use Rattle.facts.specs.Tests.{IsFact}

-- arc j leads from the head of arc a back to its tail, and the two have a sum below 0
pub record LeadsBack (g : Net) (a j : ℕ) : Type 0 where
  pub from : tail g j ≡ head g a
  pub to : head g j ≡ tail g a
  pub negative : bound g a + bound g j < 2 * bias

-- so does fact j
pub record Returns (g : Net) (L : List ℕ) (a j : ℕ) : Type 0 where
  pub fact : IsFact L j
  pub leads : LeadsBack g a j

-- the smallest number of such a fact, if there is one
pub record WayBack (g : Net) (L : List ℕ) (a : ℕ) (back : Option ℕ) : Type 0 where
  pub some : IfSome back (Returns g L a)
  pub least : (j : ℕ) → Returns g L a j → IsSomeAnd back (λ r. r ≤ j)

-- the row of the shortest reason, if the newest fact and one that leads back make one
pub record Pairs (g : Net) (L : List ℕ) (found : Option (List ℕ)) : Type 0 where
  pub some : IfSome found (λ row. row ≡ row_of row_bytes (cycle (map (arc g) L)))
  pub none : IsNone found → (head g (at L 0) ≡ tail g (at L 0) → ⊥) → (j : ℕ) → Returns g L (at L 0) j → ⊥

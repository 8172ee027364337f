-- Facts that may be left out beside a newest one, since no closed row below 0 passes through both. Definitions only.
use Rattle.std.specs.Prelude.{◌⊎◌, List, ℕ, ◌+◌, ◌*◌, ◌≤◌, length}
use Rattle.problem.specs.Arcs.{Net, head, tail, bound, bias}
use Rattle.facts.specs.Tests.{IsFact}
use Rattle.shortest.specs.Paths.{Path, sum}

-- arcs a and j, a row of the facts R from a to j and one from j back to a never have a sum below 0
pub record NoneThrough (g : Net) (a : ℕ) (R : List ℕ) (j : ℕ) : Type 0 where
  pub none : (l m : List ℕ) → Path g R (head g a) l (tail g j) → Path g R (head g j) m (tail g a) → (length l + length m + 2) * bias ≤ bound g a + sum g l + bound g j + sum g m

-- the facts K are some of R, and those left out lie on no closed row below 0 through arc a
pub record Narrows (g : Net) (a : ℕ) (R K : List ℕ) : Type 0 where
  pub known : (j : ℕ) → IsFact K j → IsFact R j
  pub kept : (j : ℕ) → IsFact R j → IsFact K j ⊎ NoneThrough g a R j

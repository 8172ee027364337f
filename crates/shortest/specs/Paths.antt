-- Rows of facts, each starting where the one before ends: their sums, those that are closed and below 0, how many facts these have at the least, and the first of them from an event. A bound stands with the bias in it. Definitions only.
use Rattle.std.specs.Prelude.{◌≡◌, List, [], ◌∷◌, ℕ, ◌+◌, ◌*◌, ◌≤◌, ◌<◌, length}
use Rattle.meaning.specs.Plain.{◌≺◌}
use Rattle.problem.specs.Arcs.{Net, head, tail, bound, bias}
use Rattle.facts.specs.Tests.{IsFact}

-- a row of facts from event y to event x
abbrev pub Path : Net → List ℕ → ℕ → List ℕ → ℕ → Type 0
Path g L y [] x = y ≡ x
Path g L y (j ∷ l) x = IsFact L j × (tail g j ≡ y) × Path g L (head g j) l x

-- what its bounds add up to, the bias in each
abbrev pub sum : Net → List ℕ → ℕ
sum g [] = 0
sum g (j ∷ l) = bound g j + sum g l

-- a closed row of facts from event t, of sum below 0
pub record From (g : Net) (L : List ℕ) (t : ℕ) (l : List ℕ) : Type 0 where
  pub path : Path g L t l t
  pub negative : sum g l < length l * bias

-- such a row of so many facts
pub record Sized (g : Net) (L : List ℕ) (t size : ℕ) : Type 0 where
  pub list : List ℕ
  pub closed : From g L t list
  pub long : length list ≡ size

-- the fewest facts of such a row from any event: one has as many, and none has fewer
pub record Fewest (g : Net) (L : List ℕ) (size : ℕ) : Type 0 where
  pub event : ℕ
  pub row : Sized g L event size
  pub none : (v : ℕ) (m : List ℕ) → From g L v m → size ≤ length m

-- the first in dictionary order of those from t with the fewest arcs
pub record FirstFrom (g : Net) (L : List ℕ) (t : ℕ) (l : List ℕ) : Type 0 where
  pub closed : From g L t l
  pub fewest : (m : List ℕ) → From g L t m → length l ≤ length m
  pub first : (m : List ℕ) → From g L t m → length m ≡ length l → m ≺ l → ⊥

-- Heights above closing by which rows of facts to a target are weighed: rounds over the arcs turned round, from a start where the target alone is high. Definitions only.
-- A row of facts from u to the target with sum z lifts u to highest − z; what comes from another event, which starts at 0, lies after r rounds at r times the bias at the most.
use Rattle.std.specs.Prelude.{Option, IsNone, IfSome, List, ℕ, ◌+◌, ◌*◌, ◌≤◌, ◌<◌, set, replicate}
use Rattle.meaning.specs.Limits.{most_events}
use Rattle.problem.specs.Arcs.{Net, bias, at}
use Rattle.facts.specs.Rounds.{rows, Rounds}
pub use Rattle.facts.specs.Rounds.{turned}

-- the height of the target: a bias for each arc of a row, so that no other start is taken for it
abbrev pub highest : ℕ
highest = most_events * bias

-- no round leads higher
abbrev pub peak : ℕ
peak = highest + most_events * bias

-- the start of the rounds to t
unfoldable pub start : ℕ → List ℕ
start t = set (replicate most_events 0) t highest

-- the height of event u after r rounds to t
abbrev pub height : Net → List ℕ → ℕ → ℕ → ℕ → ℕ
height g L t r u = at (rows (turned g) L (start t) r) u

-- r is the first round to t after which t stands above its start, and the table has the rounds up to it
pub record Lifts (g : Net) (L : List ℕ) (t r : ℕ) (tab : List (List ℕ)) : Type 0 where
  pub below : (k : ℕ) → k < r → height g L t k t ≤ highest
  pub above : highest < height g L t r t
  pub rounds : Rounds (turned g) L (start t) r tab

-- the first of `most` rounds that does, if there is one
pub record Closes (g : Net) (L : List ℕ) (t most : ℕ) (first : Option ℕ) (tab : List (List ℕ)) : Type 0 where
  pub some : IfSome first (λ r. (r ≤ most) × Lifts g L t r tab)
  pub none : IsNone first → (k : ℕ) → k ≤ most → height g L t k t ≤ highest

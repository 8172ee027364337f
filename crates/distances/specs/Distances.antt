-- The day of a list of facts: 02, A8, "the shortest distance between every pair of events, or none, under the facts so far". Definitions only.
use Rattle.std.specs.Prelude.{◌≡◌, ℕ, ◌<◌, ℤ, pos, ◌+ℤ◌, ◌≤ℤ◌}
use mathlib.Core.List.{List, Memᴰ}
use Rattle.meaning.specs.Problem.{Alternative}

-- a walk over the facts from event u, with the event that it leads to and the sum of its bounds: "(x, y, c) is an arc from y to x of weight c"
pub data Walk (fs : List Alternative) (u : ℕ) : ℕ → ℤ → Type 0 where
  stay : Walk fs u u (pos 0)
  onward : {s : ℤ} (a : Alternative) → Walk fs u a.y s → Memᴰ a fs → Walk fs u a.x (s +ℤ a.c)

-- a distance, or none
pub data Distance : Type 0 where
  none : Distance
  far : ℤ → Distance

-- the distance is no longer than s; "none is longest"
pub data AtMost : Distance → ℤ → Type 0 where
  most : {z s : ℤ} → z ≤ℤ s → AtMost (far z) s

-- the distance from u to v: some walk has that sum, and no walk has less; none where no walk leads there
pub record IsDistance (fs : List Alternative) (u v : ℕ) (d : Distance) : Type 0 where
  pub walked : (z : ℤ) → d ≡ far z → Walk fs u v z
  pub least : (s : ℤ) → Walk fs u v s → AtMost d s

-- row = from, column = to
abbrev pub Table : Type 0
Table = ℕ → ℕ → Distance

-- the table has the distance between every pair of n events under the facts, which name no other event
pub record DayOf (n : ℕ) (fs : List Alternative) (d : Table) : Type 0 where
  pub within : (a : Alternative) → Memᴰ a fs → (a.x < n) × (a.y < n)
  pub each : (u v : ℕ) → u < n → v < n → IsDistance fs u v (d u v)

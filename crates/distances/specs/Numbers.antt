-- The day of a list of facts in naturals, in a lent list: a distance z as z + 2,300,024, none as one large number; n rows of n entries, w places from row to row. Definitions only.
use Rattle.std.specs.Prelude.{◌≡◌, cond, ◌⊎◌, ℕ, zero, suc, ◌+◌, ◌*◌, ◌-◌, ◌<◌, ◌≤◌, min, max, ltb, ℤ, nat_abs}
use mathlib.Core.List.{List, Memᴰ}
use Rattle.std.proofs.Math.IntN.{sub_ℕ}
use Rattle.meaning.specs.Problem.{Alternative}
use Rattle.problem.specs.Arcs.{bias, farthest, at}
use Rattle.distances.specs.Distances.{Distance, none, far, Table, DayOf}

-- ---- what a number stands for
-- the number of the distance 0
abbrev pub middle : ℕ
middle = farthest + 1

-- the number of none
abbrev pub no_way : ℕ
no_way = 1073741824

-- the distance that a number stands for
unfoldable pub distance : ℕ → Distance
distance e = cond (ltb e no_way) (far (sub_ℕ e middle)) none

-- none, or a distance within ±2,300,023
pub data Reach : Distance → Type 0 where
  nowhere : Reach none
  within : {z : ℤ} → nat_abs z ≤ farthest → Reach (far z)

-- the number of such a distance
abbrev pub InRange : ℕ → Type 0
InRange e = (e ≡ no_way) ⊎ ((1 ≤ e) × (e < 2 * middle))

-- ---- a table in a list
-- the table that lies in the list from a place on
abbrev pub table_at : List ℕ → ℕ → ℕ → Table
table_at s base w u v = distance (at s (base + (u * w + v)))

-- all its numbers are in range
pub record Ranged (s : List ℕ) (base w n : ℕ) : Type 0 where
  pub each : (u v : ℕ) → u < n → v < n → InRange (at s (base + (u * w + v)))

-- the alternative in numbers: its bound stands as c + bias
pub record Stands (x y b : ℕ) (a : Alternative) : Type 0 where
  pub first : a.x ≡ x
  pub second : a.y ≡ y
  pub bound : a.c ≡ sub_ℕ b bias

-- the table from a place on is the day of the facts, which are alternatives or opposites of some
pub record Holds (s : List ℕ) (base w n : ℕ) (fs : List Alternative) : Type 0 where
  pub day : DayOf n fs (table_at s base w)
  pub ranged : Ranged s base w n
  pub bounded : (a : Alternative) → Memᴰ a fs → nat_abs a.c ≤ bias

-- ---- one fact more, and the latest timetable
-- the distance 0 and the bound 0 in numbers: a fact fits where the way back and its bound reach this
abbrev pub turn : ℕ
turn = middle + bias

-- more than any number and `turn` together: what a way that leads nowhere adds
abbrev pub blocked : ℕ
blocked = 2147483648

-- what the way to the fact's start, of number p, and the fact, of bound b, add to a number, `turn` too much
unfoldable pub shift : ℕ → ℕ → ℕ
shift p b = cond (ltb p no_way) (p + b) blocked

-- the number o, or the lower one of the way that adds t to the number e; a difference below 0 is 0, which is out of range
unfoldable pub lowered : ℕ → ℕ → ℕ → ℕ
lowered o t e = cond (ltb e no_way) (min o (e + t - turn)) o

-- the minutes before closing of event v, as far as the first k rows tell
unfoldable pub minutes_of : List ℕ → ℕ → ℕ → ℕ → ℕ → ℕ
minutes_of s base w v zero = 0
minutes_of s base w v (suc k) = max (minutes_of s base w v k) (middle - at s (base + (k * w + v)))

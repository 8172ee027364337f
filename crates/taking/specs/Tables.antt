-- The table of the day of some facts in naturals, row by row: a distance z between two of w events as z + level, none of them none (Spans). Definitions only.
use Rattle.std.specs.Prelude.{◌≡◌, ℕ, ◌+◌, ◌*◌, ◌-◌, ◌<◌, ◌≤◌, min, nat_abs, length, get_or}
use mathlib.Core.List.{List, [], ◌++◌, Memᴰ}
use Rattle.std.proofs.Math.IntN.{sub_ℕ}
use Rattle.meaning.specs.Problem.{Alternative}
use Rattle.problem.specs.Arcs.{bias, farthest, at}
use Rattle.distances.specs.Distances.{far, Table, DayOf}
use Rattle.taking.specs.Spans.{spans}

-- ---- numbers
-- the number of the distance 0, so far above 0 that the sum of two distances' numbers and a bound's does not fall below `turn`
abbrev pub level : ℕ
level = 2 * farthest + bias

-- what the sum of two distances' numbers and a bound's has too much
abbrev pub turn : ℕ
turn = level + bias

-- the number of a distance within ±farthest
abbrev pub Near : ℕ → Type 0
Near e = (level ≤ e + farthest) × (e ≤ level + farthest)

-- ---- tables
-- the number of the distance from u to v
abbrev pub entry : List (List ℕ) → ℕ → ℕ → ℕ
entry t u v = at (get_or t u []) v

-- the distances that they stand for
abbrev pub distances_in : List (List ℕ) → Table
distances_in t u v = far (sub_ℕ (entry t u v) level)

-- the table is the day of w events under the facts, which are alternatives or opposites of some
pub record IsDay (w : ℕ) (fs : List Alternative) (t : List (List ℕ)) : Type 0 where
  pub day : DayOf w (fs ++ spans w) (distances_in t)
  pub near : (u v : ℕ) → u < w → v < w → Near (entry t u v)
  pub bounded : (a : Alternative) → Memᴰ a fs → nat_abs a.c ≤ bias

-- it is the day of some facts
pub record Held (w : ℕ) (t : List (List ℕ)) : Type 0 where
  pub fs : List Alternative
  pub holds : IsDay w fs t

-- ---- tables one after another, one for each depth
-- the table at depth k
abbrev pub table_at : List (List (List ℕ)) → ℕ → List (List ℕ)
table_at s k = get_or s k []

-- each has w rows
pub record Tall (w : ℕ) (s : List (List (List ℕ))) : Type 0 where
  pub rows : (k : ℕ) → k < length s → length (table_at s k) ≡ w

-- only the table at depth k is another, and it has as many rows
pub record Beside (r s : List (List (List ℕ))) (k : ℕ) : Type 0 where
  pub long : length s ≡ length r
  pub tall : (i : ℕ) → length (table_at s i) ≡ length (table_at r i)
  pub rest : (i : ℕ) → (i ≡ k → ⊥) → table_at s i ≡ table_at r i

-- ---- what the functions do, number by number
-- a row lowered by the row past a fact, the way to which adds so much
pub record RowLowered (w : ℕ) (row : List ℕ) (way : ℕ) (past new : List ℕ) : Type 0 where
  pub each : (v : ℕ) → v < w → at new v ≡ min (at row v) (at past v + way - turn)

-- the number of the new table between u and v
abbrev pub new_entry : List (List ℕ) → ℕ → ℕ → ℕ → ℕ → ℕ → ℕ
new_entry t x y b u v = min (entry t u v) (entry t x v + (entry t u y + b) - turn)

-- the table s is the table t with one fact more
abbrev pub WithFact : ℕ → List (List ℕ) → List (List ℕ) → ℕ → ℕ → ℕ → Type 0
WithFact w t s x y b = (u v : ℕ) → u < w → v < w → entry s u v ≡ new_entry t x y b u v

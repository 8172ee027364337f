-- What the functions over a lent list do to it, number by number. Definitions only.
use Rattle.std.specs.Prelude.{◌≡◌, ◌⊎◌, List, [], ℕ, ◌+◌, ◌*◌, ◌<◌, ◌≤◌, length}
use Rattle.problem.specs.Arcs.{at}
use Rattle.distances.specs.Numbers.{no_way, shift, lowered, turn, Holds}

-- ---- places
-- n places from a on are read before the n places from `to` on are written over them, going upwards
abbrev pub Clear : ℕ → ℕ → ℕ → Type 0
Clear a to n = (to ≤ a) ⊎ (a + n ≤ to)

-- place k is none of the n places from `to` on
abbrev pub Beside : ℕ → ℕ → ℕ → Type 0
Beside k to n = (k < to) ⊎ (to + n ≤ k)

-- place k is no entry of the table from `to` on
abbrev pub Outside : ℕ → ℕ → ℕ → ℕ → Type 0
Outside k to w n = (u v : ℕ) → u < n → v < n → k ≡ to + (u * w + v) → ⊥

-- ---- no facts
-- the places from one to another hold none, and nothing else has changed
pub record Blanked (r s : List ℕ) (from to : ℕ) : Type 0 where
  pub long : length s ≡ length r
  pub blank : (k : ℕ) → from ≤ k → k < to → at s k ≡ no_way
  pub rest : (k : ℕ) → (k < from) ⊎ (to ≤ k) → at s k ≡ at r k

-- the table of no facts: each event is 0 from itself, no other way leads anywhere, and nothing else has changed
pub record Begun (r s : List ℕ) (base w n : ℕ) : Type 0 where
  pub long : length s ≡ length r
  pub holds : Holds s base w n []
  pub past : (k : ℕ) → base ≤ k → k < base + n * w → Outside k base w n → at s k ≡ no_way
  pub rest : (k : ℕ) → Beside k base (n * w) → at s k ≡ at r k

-- ---- one fact more
-- the row from `to` on is the row `from` lowered by the row `past`, and nothing else has changed
pub record RowLowered (r s : List ℕ) (from to past n t : ℕ) : Type 0 where
  pub long : length s ≡ length r
  pub each : (v : ℕ) → v < n → at s (to + v) ≡ lowered (at r (from + v)) t (at r (past + v))
  pub rest : (k : ℕ) → Beside k to n → at s k ≡ at r k

-- the number of the new table between u and v
abbrev pub new_number : List ℕ → ℕ → ℕ → ℕ → ℕ → ℕ → ℕ → ℕ → ℕ
new_number r from w x y b u v =
    lowered (at r (from + (u * w + v))) (shift (at r (from + (u * w + y))) b) (at r (from + (x * w + v)))

-- the old table lies before the new one, or is written over where the fact fits
pub data Room (s : List ℕ) (from to w n x y b : ℕ) : Type 0 where
  apart : from + n * w ≤ to → Room s from to w n x y b
  in_place : from ≡ to → turn ≤ at s (from + (x * w + y)) + b → Room s from to w n x y b

-- the table `to` is the table `from` with one fact more, and no other number has changed
pub record Extended (r s : List ℕ) (from to w n x y b : ℕ) : Type 0 where
  pub long : length s ≡ length r
  pub each : (u v : ℕ) → u < n → v < n → at s (to + (u * w + v)) ≡ new_number r from w x y b u v
  pub rest : (k : ℕ) → Outside k to w n → at s k ≡ at r k

-- The facts of a position of a clause, added to the day at a depth. Definitions only.
use Rattle.std.specs.Prelude.{◌≡◌, Bool, true, false, Option, None, Some, List, ◌∷◌, ℕ, zero, suc, ◌+◌, ◌-◌, ◌<◌, ◌≤◌, length, ℤ, pos, ◌+ℤ◌, ◌≤ℤ◌}
use Rattle.meaning.specs.Limits.{opposite_from}
use Rattle.meaning.specs.Problem.{Alternative, opposite}
use Rattle.meaning.specs.Decision.{sound}
use Rattle.problem.specs.Arcs.{Net, head, tail, arc, Arc}
use Rattle.distances.specs.Distances.{Walk}
use Rattle.taking.specs.Tables.{IsDay, table_at, Beside}

-- ---- the facts
-- the facts, and before them the opposites of i arcs from number j on, the last one foremost
unfoldable pub passed : Net → ℕ → ℕ → List Alternative → List Alternative
passed g j zero fs = fs
passed g j (suc i) fs = arc g (opposite_from + (j + i)) ∷ passed g j i fs

-- the facts with alternative `last` of a clause that begins at `first`, and the opposites of those before it
abbrev pub taken : Net → ℕ → ℕ → List Alternative → List Alternative
taken g first last fs = arc g last ∷ passed g first (last - first) fs

-- the arcs up to `last`, and their opposites
pub record Arcs (g : Net) (n last : ℕ) : Type 0 where
  pub few : last < opposite_from
  pub own : (j : ℕ) → j ≤ last → Arc g n j
  pub turned : (j : ℕ) → j ≤ last → Arc g n (opposite_from + j)
  pub opposites : (j : ℕ) → j ≤ last → opposite (arc g j) ≡ arc g (opposite_from + j)

-- ---- the tables
-- whatever facts the table at depth `from` is the day of: whether they are sound with more facts, and the table at depth `to` is then the day of all; no other
-- table has changed
pub record Adds (w : ℕ) (r s : List (List (List ℕ))) (from to : ℕ) (more : List Alternative → List Alternative) (ok : Bool) : Type 0 where
  pub beside : Beside r s to
  pub decides : (fs : List Alternative) → IsDay w fs (table_at r from) → ok ≡ sound (more fs)
  pub day : ok ≡ true → (fs : List Alternative) → IsDay w fs (table_at r from) → IsDay w (more fs) (table_at s to)

-- the same, with the depth at which the table with more facts lies, `from` or `to`, if they are sound; they may be implied, so that nothing was added
pub record Passes (w : ℕ) (r s : List (List (List ℕ))) (from to : ℕ) (more : List Alternative → List Alternative) (passed : Option ℕ) : Type 0 where
  pub beside : Beside r s to
  pub room : (with : ℕ) → passed ≡ Some with → with < length s
  pub fails : passed ≡ None → (fs : List Alternative) → IsDay w fs (table_at r from) → sound (more fs) ≡ false
  pub day : (with : ℕ) → passed ≡ Some with → (fs : List Alternative) → IsDay w fs (table_at r from) → IsDay w (more fs) (table_at s with)

-- ---- facts aside
-- fact j lies on no closed walk below 0 that passes through arc a once: whichever way leads from a's head to its tail, and from its head back to a's tail
pub record Aside (g : Net) (fs : List Alternative) (a j : ℕ) : Type 0 where
  pub each : (s r : ℤ) → Walk fs (head g a) (tail g j) s → Walk fs (head g j) (tail g a) r → pos 0 ≤ℤ (s +ℤ (arc g j).c +ℤ (r +ℤ (arc g a).c))

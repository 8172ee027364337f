-- How the numbers of a checked problem are laid out. Definitions only.
use Rattle.std.specs.Prelude.{◌≡◌, List, ℕ, suc, ◌+◌, ◌*◌, ◌<◌, ◌≤◌, length}
use Rattle.meaning.specs.Limits.{most_events, most_clauses, most_in_clause, most_alternatives, opposite_from}
use Rattle.meaning.specs.Problem.{opposite}
use Rattle.problem.specs.declared.Edge.{Edge}
use Rattle.problem.specs.Arcs.{net, at, arc, Arc}

-- the sizes lie within their limits; alternative j is arc j, and its opposite arc 64 + j
pub record Layout (n m : ℕ) (starts : List ℕ) (edges : List Edge) : Type 0 where
  pub some : 1 ≤ n
  pub most : n ≤ most_events
  pub few : m ≤ most_clauses
  pub begins : at starts 0 ≡ 0
  pub rises : (k : ℕ) → k < m → (at starts k ≤ at starts (suc k)) × (at starts (suc k) ≤ at starts k + most_in_clause)
  pub ends : (k : ℕ) → k ≤ m → at starts k ≤ at starts m
  pub last : at starts m ≤ most_alternatives
  pub full : length edges ≡ 2 * most_alternatives
  pub alternative : (j : ℕ) → j < at starts m → Arc (net edges) n j
  pub turned : (j : ℕ) → j < at starts m → Arc (net edges) n (opposite_from + j)
  pub opposites : (j : ℕ) → j < at starts m → opposite (arc (net edges) j) ≡ arc (net edges) (opposite_from + j)

-- The facts of a standing as arc numbers, newest first. Definitions only.
use Rattle.std.specs.Prelude.{List, [], ◌∷◌, ℕ, zero, suc, ◌+◌, ◌<◌, ◌≤◌}
use Rattle.meaning.specs.Limits.{opposite_from}
use Rattle.problem.specs.declared.Problem.{Problem}
use Rattle.problem.specs.Arcs.{at}
use Rattle.problem.specs.Laid.{size_of}

-- position i of a clause whose first alternative is j: its number, and before it the opposites of those passed over, put before the numbers L
unfoldable pub takes : ℕ → ℕ → List ℕ → List ℕ
takes j zero L = j ∷ L
takes j (suc i) L = takes (suc j) i ((opposite_from + j) ∷ L)

-- the numbers of a standing's facts, its positions from clause k on, put before the numbers L
unfoldable pub standing_facts : List ℕ → ℕ → List ℕ → List ℕ → List ℕ
standing_facts starts k [] L = L
standing_facts starts k (i ∷ q) L = standing_facts starts (suc k) q (takes (at starts k) i L)

-- the numbers of a selection, its positions from clause k on
unfoldable pub chosen_facts : List ℕ → ℕ → List ℕ → List ℕ
chosen_facts starts k [] = []
chosen_facts starts k (i ∷ q) = (at starts k + i) ∷ chosen_facts starts (suc k) q

-- the first k positions lie in their clauses
pub record Inside (p : Problem) (picks : List ℕ) (k : ℕ) : Type 0 where
  pub few : k ≤ p.m
  pub each : (i : ℕ) → i < k → at picks i < size_of p i

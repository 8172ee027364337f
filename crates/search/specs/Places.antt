-- Places of the search: the standing after one that is closed, and how much a search may still do. Definitions only.
use Rattle.std.specs.Prelude.{◌≡◌, Option, IsNone, IfSome, List, [], ◌∷◌, ℕ, suc, ◌+◌, ◌-◌, length, take}
use Rattle.std.proofs.Math.Option.{some, none}
use Rattle.meaning.specs.Limits.{most_clauses}
use Rattle.meaning.specs.Problem.{Clause}
use Rattle.meaning.specs.Search.{next}
use Rattle.problem.specs.declared.Problem.{Problem}
use Rattle.problem.specs.Laid.{clauses_in}
use Rattle.search.specs.declared.Standing.{Standing}
use Rattle.search.specs.Standing.{Inside}

-- the standing after s and all under it, if there is one
pub record Advances (p : Problem) (s : Standing) (after : Option Standing) : Type 0 where
  pub goes : IfSome after (λ t. (next (clauses_in p) (take s.k s.picks) ≡ some (take t.k t.picks)) × Inside p t.picks t.k × (length t.picks ≡ most_clauses))
  pub ends : IsNone after → next (clauses_in p) (take s.k s.picks) ≡ none

-- the alternatives that are open at a standing: those after its positions, and itself
unfoldable pub open_at : List Clause → List ℕ → ℕ
open_at cs [] = 1
open_at [] (i ∷ q) = 1
open_at (c ∷ cs) (i ∷ q) = length c - suc i + open_at cs q

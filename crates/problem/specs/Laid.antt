-- A checked problem by value: its clauses as lists of arcs. Definitions only.
use Rattle.std.specs.Prelude.{List, [], ◌∷◌, ℕ, zero, suc, ◌-◌}
use Rattle.meaning.specs.Problem.{Clause}
use Rattle.problem.specs.declared.Problem.{Problem}
use Rattle.problem.specs.Arcs.{Net, net, at, arcs_from}

-- the arcs of a problem
abbrev pub arcs : Problem → Net
arcs p = net p.arcs

-- how many alternatives clause k has
abbrev pub size_of : Problem → ℕ → ℕ
size_of p k = at p.starts (suc k) - at p.starts k

-- clause k: the alternatives from starts k up to, and without, starts (k + 1)
abbrev pub clause_of : Problem → ℕ → Clause
clause_of p k = arcs_from (arcs p) (at p.starts k) (size_of p k)

-- c clauses from number k on
unfoldable pub clauses_from : Problem → ℕ → ℕ → List Clause
clauses_from p k zero = []
clauses_from p k (suc c) = clause_of p k ∷ clauses_from p (suc k) c

-- all its clauses
abbrev pub clauses_in : Problem → List Clause
clauses_in p = clauses_from p 0 p.m

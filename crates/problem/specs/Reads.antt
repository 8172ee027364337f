-- What acceptance gives of a problem by value: the clauses of what was lent. Definitions only.
use Rattle.std.specs.Prelude.{◌≡◌, List, ℕ, ℤ}
use Rattle.meaning.specs.Screen.{Lent, clauses_of}
use Rattle.problem.specs.declared.Problem.{Problem}
use Rattle.problem.specs.Laid.{clauses_in}

-- what a call is lent: "events n", the triples, and the clause counts
abbrev pub given : ℕ → List ℤ → List ℕ → Lent
given n triples counts = record { n = n; triples = triples; counts = counts }

-- the problem by value has the events and the clauses that were lent
pub record Reads (l : Lent) (p : Problem) : Type 0 where
  pub events : p.n ≡ l.n
  pub clauses : clauses_of l ≡ clauses_in p

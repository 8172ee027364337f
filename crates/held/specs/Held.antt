-- What a buffer of facts holds, and what their tests ask of it. Definitions only.
use Rattle.std.specs.Prelude.{List, map, ℕ, ◌≤◌, drop}
use Rattle.meaning.specs.Problem.{Alternative}
use Rattle.problem.specs.declared.Problem.{Problem}
use Rattle.problem.specs.Arcs.{arc}
use Rattle.problem.specs.Laid.{arcs}
use Rattle.facts.specs.Tests.{Within}
use Rattle.held.specs.declared.Facts.{Facts}

-- the numbers that a buffer holds
abbrev pub held : Facts → List ℕ
held f = drop f.at f.buffer

-- the facts that they stand for
abbrev pub facts_in : Problem → Facts → List Alternative
facts_in p f = map (arc (arcs p)) (held f)

-- the numbers are arcs of the problem, and a place is left for one more
pub record Ready (p : Problem) (f : Facts) : Type 0 where
  pub free : 1 ≤ f.at
  pub within : Within (arcs p) (held f) p.n

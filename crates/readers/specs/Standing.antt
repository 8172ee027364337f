-- A standing as the reader keeps it: the arc numbers of its facts in a buffer that is filled from the back, the newest first. Definitions only.
use Rattle.std.specs.Prelude.{List, map, ℕ, ◌+◌, ◌≤◌, drop}
use Rattle.meaning.specs.Problem.{Alternative}
use Rattle.problem.specs.declared.Problem.{Problem}
use Rattle.problem.specs.Arcs.{at, arc, Known, places}
use Rattle.problem.specs.Laid.{arcs}
use Rattle.readers.specs.declared.facts.Facts.{Facts}

-- the numbers that stand in the buffer
abbrev pub held : Facts → List ℕ
held f = drop f.from f.buffer

-- the facts that they stand for
abbrev pub facts_from : Problem → Facts → List Alternative
facts_from p f = map (arc (arcs p)) (held f)

-- the first j alternatives are decided: no more facts than these stand in the buffer
pub record Decided (p : Problem) (j : ℕ) (f : Facts) : Type 0 where
  pub few : places ≤ f.from + j
  pub known : Known (arcs p) p.n (held f)

-- k clauses are chosen
pub record Stands (p : Problem) (k : ℕ) (f : Facts) : Type 0 where
  pub chosen : k ≤ p.m
  pub decided : Decided p (at p.starts k) f

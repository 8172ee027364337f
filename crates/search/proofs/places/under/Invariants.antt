-- `search::places::under` meets its contract: the product of the clauses from i on. Assumes nothing.
use Rattle.std.proofs.Common.{◌≡◌, ◌-◌, ◌≤◌}
use Rattle.meaning.specs.Plain.{product}
use Rattle.problem.specs.Laid.{clauses_from}
use Rattle.search.proofs.places.under.Given as goal

abbrev pub invariant-loop-i : goal.invariant-loop-i
invariant-loop-i l = record { whole : l.all ≡ product (clauses_from l.p l.i (l.p.m - l.i)); low : l.k ≤ l.i }

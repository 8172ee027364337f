use Rattle.std.proofs.Common.{◌≡◌, ◌∷◌, ◌++◌, take, drop, replicate}
use Rattle.meaning.specs.Limits.{most_clauses}
use Rattle.problem.proofs.loading.starts_of.Given as goal

abbrev pub invariant-loop-k : goal.invariant-loop-k
invariant-loop-k l = l.starts ≡ 0 ∷ (take l.k l.counts ++ drop l.k (replicate most_clauses 0))

-- The lamps of a checked problem, and the mask of some of their bits. Definitions only.
use Rattle.std.specs.Prelude.{Bool, List, ℕ, ◌-◌, ◌^◌}
use Rattle.meaning.specs.Lamps.{joined, lit}
use Rattle.problem.specs.declared.Problem.{Problem}
use Rattle.problem.specs.Laid.{clauses_in}

-- the lamps of all clauses, in order
abbrev pub lamps_in : Problem → List Bool
lamps_in p = joined (lit (clauses_in p))

-- the bits from a up to, and without, b
abbrev pub mask : ℕ → ℕ → ℕ
mask a b = 2 ^ b - 2 ^ a

-- Which facts are kept where a reason is looked for. Definitions only.
use Rattle.std.specs.Prelude.{◌≡◌, ◌⊎◌, List, ◌∷◌, ℕ, ◌+◌, drop}
use Rattle.meaning.specs.Problem.{Alternative}
use Rattle.problem.specs.declared.Problem.{Problem}
use Rattle.problem.specs.Arcs.{at}
use Rattle.problem.specs.Laid.{arcs}
use Rattle.facts.specs.Tests.{IsFact}
use Rattle.held.specs.declared.Facts.{Facts}
use Rattle.held.specs.Held.{held}
use Rattle.taking.specs.Tables.{IsDay}
use Rattle.taking.specs.Taking.{Aside}

-- the facts after the newest
abbrev pub older : Facts → List ℕ
older f = drop (f.at + 1) f.buffer

-- the newest is kept, and of the others, whose day is given, those that are not aside
pub record Narrowed (w : ℕ) (p : Problem) (f : Facts) (day : List (List ℕ)) (kept : Facts) : Type 0 where
  pub newest : held kept ≡ at f.buffer f.at ∷ older kept
  pub some : (j : ℕ) → IsFact (older kept) j → IsFact (older f) j
  pub aside : (fs : List Alternative) → IsDay w fs day → (j : ℕ) → IsFact (older f) j → IsFact (older kept) j ⊎ Aside (arcs p) fs (at f.buffer f.at) j

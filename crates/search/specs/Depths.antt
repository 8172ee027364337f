-- The tables of a search, one for each depth, in one lent list: the table at depth i is the day of the facts of a standing's first i clauses. Definitions only.
use Rattle.std.specs.Prelude.{◌≡◌, Bool, true, Option, IsNone, IfSome, List, [], ℕ, ◌+◌, ◌-◌, ◌<◌, ◌≤◌, length, take}
use Rattle.std.proofs.Common.{ControlFlow, Continue, Break}
use Rattle.std.proofs.Math.Option.{some, none}
use Rattle.meaning.specs.Limits.{most_events}
use Rattle.meaning.specs.Problem.{Alternative}
use Rattle.meaning.specs.Decision.{sound}
use Rattle.meaning.specs.Search.{facts, first_dead}
use Rattle.problem.specs.declared.Problem.{Problem}
use Rattle.problem.specs.Laid.{clauses_from, clauses_in}
use Rattle.taking.specs.Tables.{IsDay, table_at, Tall}
use Rattle.search.specs.declared.Place.{Place}
use Rattle.search.specs.declared.End.{End}

-- the facts of the standing of the first i picks
abbrev pub facts_at : Problem → List ℕ → ℕ → List Alternative
facts_at p picks i = facts (clauses_in p) (take i picks) []

-- there is room for a table at each depth, wide enough for the problem's events
pub record Roomy (w : ℕ) (p : Problem) (days : List (List (List ℕ))) : Type 0 where
  pub wide : p.n ≤ w
  pub few : w ≤ most_events
  pub room : p.m < length days
  pub tall : Tall w days

-- and those above depth k are the days of the facts of the standing's first clauses
pub record Depths (w : ℕ) (p : Problem) (picks : List ℕ) (k : ℕ) (days : List (List (List ℕ))) : Type 0 where
  pub roomy : Roomy w p days
  pub each : (i : ℕ) → i < k → IsDay w (facts_at p picks i) (table_at days i)

-- the table at depth k was made of those above it
pub record Enters (w : ℕ) (p : Problem) (picks : List ℕ) (k : ℕ) (r s : List (List (List ℕ))) (ok : Bool) : Type 0 where
  pub decides : ok ≡ sound (facts_at p picks k)
  pub stays : Depths w p picks k s
  pub day : ok ≡ true → Depths w p picks (k + 1) s

-- the tables are those of the place that the search goes on from
abbrev pub Stacked : ℕ → Problem → ControlFlow End Place → List (List (List ℕ)) → Type 0
Stacked w p (Continue t) days = Depths w p t.standing.picks t.standing.k days
Stacked w p (Break e) days = Roomy w p days

-- clause d is the lowest dead one from clause k on under the facts; or none is
pub record DeadFrom (p : Problem) (fs : List Alternative) (k : ℕ) (lowest : Option ℕ) : Type 0 where
  pub some-dead : IfSome lowest (λ d. (k ≤ d) × (d < p.m) × (first_dead sound fs (clauses_from p k (p.m - k)) ≡ some (d - k)))
  pub none-dead : IsNone lowest → first_dead sound fs (clauses_from p k (p.m - k)) ≡ none

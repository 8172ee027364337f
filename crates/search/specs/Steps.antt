-- The search as a step over a place, and what a step and a run say. Definitions only.
use Rattle.std.specs.Prelude.{◌≡◌, List, [], ℕ, ◌+◌, ◌-◌, ◌*◌, ◌<◌, ◌≤◌, length, take}
use Rattle.std.proofs.Common.{ControlFlow, Continue, Break}
use Rattle.std.proofs.Math.Option.{some, none}
use Rattle.meaning.specs.Limits.{most_allowance, most_clauses, row_bytes}
use Rattle.meaning.specs.Decision.{sound}
use Rattle.meaning.specs.Search.{Row, Outcome, found, closed, stopped, later, next, search, resume}
use Rattle.problem.specs.declared.Problem.{Problem}
use Rattle.problem.specs.Laid.{clauses_in}
use Rattle.search.specs.declared.Place.{Place}
use Rattle.search.specs.declared.End.{End}
use Rattle.search.specs.declared.End.TheVariants.{Plan, Closed, Stop}
use Rattle.search.specs.Standing.{Inside}
use Rattle.search.specs.Places.{open_at}
use Rattle.search.specs.Listing.{Kept}

-- the standing at a place
abbrev pub positions : Place → List ℕ
positions s = take s.standing.k s.standing.picks

-- no more steps than this are left, with the allowance a
abbrev pub effort : Problem → ℕ → Place → ℕ
effort p a s = 5 * (a - s.visits) + open_at (clauses_in p) (positions s)

-- the most rows that a search may write
abbrev pub most_rows : ℕ
most_rows = 5 * most_allowance + 1

-- a place that a search with the allowance a may come to
pub record Fine (p : Problem) (a : ℕ) (s : Place) : Type 0 where
  pub inside : Inside p s.standing.picks s.standing.k
  pub spent : s.visits ≤ a
  pub few : s.rows + effort p a s ≤ most_rows

-- the whole search, ending in o, is what was closed and the rows written before the place, and then the search carried on from there
pub record At (p : Problem) (a : ℕ) (o : Outcome) (s : Place) (reasons : List ℕ) : Type 0 where
  pub before : ℕ
  pub rows : List Row
  pub is : o ≡ later before rows (resume sound (clauses_in p) 0 (positions s) [] (a - s.visits))
  pub counted : length rows ≡ s.rows
  pub kept : Kept (length reasons) rows reasons

-- it found the plan of the place
pub record Found (p : Problem) (a : ℕ) (o : Outcome) (s : Place) : Type 0 where
  pub before : ℕ
  pub is : o ≡ found (positions s) before (a - s.visits)
  pub spent : s.visits ≤ a
  pub inside : Inside p s.standing.picks s.standing.k
  pub whole : s.standing.k ≡ p.m

-- it ended without one, and the rows are kept
pub record Ended (p : Problem) (a : ℕ) (o : Outcome) (s : Place) (reasons : List ℕ) : Type 0 where
  pub before : ℕ
  pub rows : List Row
  pub is : o ≡ closed before rows (a - s.visits)
  pub spent : s.visits ≤ a
  pub counted : length rows ≡ s.rows
  pub kept : Kept (length reasons) rows reasons

-- it stopped before the place
pub record Stopped (p : Problem) (a : ℕ) (o : Outcome) (s : Place) : Type 0 where
  pub before : ℕ
  pub rows : List Row
  pub is : o ≡ stopped before rows (positions s)
  pub spent : s.visits ≡ a
  pub inside : Inside p s.standing.picks s.standing.k

-- it goes on from a place that a search may come to, with less left to do
pub record Goes (p : Problem) (a : ℕ) (o : Outcome) (less : ℕ) (s : Place) (reasons : List ℕ) : Type 0 where
  pub fine : Fine p a s
  pub here : At p a o s reasons
  pub nearer : effort p a s < less

-- how a search ends
abbrev pub Ends : Problem → ℕ → Outcome → End → List ℕ → Type 0
Ends p a o (Plan s) reasons = Found p a o s
Ends p a o (Closed s) reasons = Ended p a o s reasons
Ends p a o (Stop s) reasons = Stopped p a o s

-- what a step's answer means, where there was so much left to do before it
abbrev pub Means : Problem → ℕ → Outcome → ℕ → ControlFlow End Place → List ℕ → Type 0
Means p a o less (Continue s) reasons = Goes p a o less s reasons
Means p a o less (Break e) reasons = Ends p a o e reasons

-- a step from the place s
pub record Steps (p : Problem) (a : ℕ) (s : Place) (before : List ℕ) (w : ControlFlow End Place) (after : List ℕ) : Type 0 where
  pub sized : length after ≡ length before
  pub means : (o : Outcome) → At p a o s before → Means p a o (effort p a s) w after

-- t has the visits and the rows of s
pub record Counts (s t : Place) : Type 0 where
  pub visits : t.visits ≡ s.visits
  pub rows : t.rows ≡ s.rows

-- the place after the standing of s is closed, if there is one; else all is closed
abbrev pub Leaves : Problem → Place → ControlFlow End Place → Type 0
Leaves p s (Continue t) = Counts s t × (next (clauses_in p) (positions s) ≡ some (positions t)) × Inside p t.standing.picks t.standing.k × (open_at (clauses_in p) (positions t) < open_at (clauses_in p) (positions s)) × (length t.standing.picks ≡ most_clauses)
Leaves p s (Break (Plan t)) = ⊥
Leaves p s (Break (Closed t)) = Counts s t × (next (clauses_in p) (positions s) ≡ none)
Leaves p s (Break (Stop t)) = ⊥

-- a run of the whole search, with the allowance a
pub record Runs (p : Problem) (a : ℕ) (before : List ℕ) (e : End) (after : List ℕ) : Type 0 where
  pub sized : length after ≡ length before
  pub ends : Ends p a (search sound (clauses_in p) 0 [] a) e after

-- a run whose rows are worked out only where all of them fit: else the reasons are as they were
abbrev pub Left : End → List ℕ → List ℕ → Type 0
Left (Plan s) before after = after ≡ before
Left (Closed s) before after = length before < s.rows * row_bytes → after ≡ before
Left (Stop s) before after = after ≡ before

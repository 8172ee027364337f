-- The rounds that test a set of facts, from any start that lies under every timetable of theirs: in a round each fact raises the time of its head, going by the times before the round (001). And the answer of a test by them.
-- Times are minutes before closing. Definitions only.
use Rattle.std.specs.Prelude.{◌≡◌, Bool, true, false, Option, IsNone, IfSome, List, [], ℕ, zero, suc, ◌+◌, ◌*◌, ◌-◌, ◌≤◌, ◌<◌, max, length, get_or, set}
use Rattle.meaning.specs.Limits.{most_events}
use Rattle.problem.specs.Arcs.{Net, head, tail, bound, bias, at}
use Rattle.facts.specs.Tests.{farthest}

-- the times s keep arc j: time of x − time of y ≤ c
abbrev pub Kept : Net → (ℕ → ℕ) → ℕ → Type 0
Kept g s j = s (tail g j) + bias ≤ s (head g j) + bound g j

-- the times s keep all the facts
pub record Holds (g : Net) (L : List ℕ) (s : ℕ → ℕ) : Type 0 where
  pub each : (i : ℕ) → i < length L → Kept g s (at L i)

-- no timetable that keeps the facts has an event nearer to closing than z has it
pub record Under (g : Net) (L z : List ℕ) : Type 0 where
  pub under : (t : ℕ → ℕ) → Holds g L t → (v : ℕ) → at z v ≤ t v

-- the net with each arc turned round
abbrev pub turned : Net → Net
turned g = record { xs = g.ys; ys = g.xs; bs = g.bs }

-- the net as it is, or turned round
abbrev pub aimed : Bool → Net → Net
aimed true g = turned g
aimed false g = g

-- one fact used in a round: the earlier times s raise the time of its head
unfoldable pub relax : Net → List ℕ → ℕ → List ℕ → List ℕ
relax g s j nxt = set nxt (head g j) (max (at nxt (head g j)) (at s (tail g j) + bias - bound g j))

-- a round after its first i facts
unfoldable pub upto : Net → List ℕ → List ℕ → ℕ → List ℕ
upto g L s zero = s
upto g L s (suc i) = relax g s (at L i) (upto g L s i)

abbrev pub round : Net → List ℕ → List ℕ → List ℕ
round g L s = upto g L s (length L)

-- the times after k rounds from the times z
unfoldable pub rows : Net → List ℕ → List ℕ → ℕ → List ℕ
rows g L z zero = z
rows g L z (suc k) = round g L (rows g L z k)

-- no round of a test leads further before closing, sound or not
abbrev pub ceiling : ℕ
ceiling = farthest + most_events * bias

-- row k of t has the times after k rounds, up to round n
pub record Rounds (g : Net) (L z : List ℕ) (n : ℕ) (t : List (List ℕ)) : Type 0 where
  pub row : (k : ℕ) → k ≤ n → get_or t k [] ≡ rows g L z k

-- each of the first k rounds changes a time
pub record Moving (g : Net) (L z : List ℕ) (k : ℕ) : Type 0 where
  pub each : (i : ℕ) → i < k → rows g L z (suc i) ≡ rows g L z i → ⊥

-- k rounds of n were made, row by row in t: each before the last changed a time, and those left out would change none
pub record Ended (g : Net) (L z : List ℕ) (n k : ℕ) (t : List (List ℕ)) : Type 0 where
  pub some : 1 ≤ k
  pub most : k ≤ n
  pub rounds : Rounds g L z k t
  pub moving : Moving g L z (k - 1)
  pub before : rows g L z (k - 1) ≡ rows g L z (n - 1)
  pub last : rows g L z k ≡ rows g L z n

-- the rows of t after row k are those of s
pub record Stays (k : ℕ) (s t : List (List ℕ)) : Type 0 where
  pub same : (i : ℕ) → k < i → get_or t i [] ≡ get_or s i []

-- the first of w events that is nearer to closing in s than in r, if there is one
pub record Rising (w : ℕ) (s r : List ℕ) (first : Option ℕ) : Type 0 where
  pub rises : IfSome first (λ v. (v < w) × (at s v < at r v))
  pub none : IsNone first → (u : ℕ) → u < w → at r u ≤ at s u

-- arc j raises v from the times s to the times r
pub record Raises (g : Net) (s r : List ℕ) (v j : ℕ) : Type 0 where
  pub heads : head g j ≡ v
  pub exact : at r v + bound g j ≡ at s (tail g j) + bias

-- place i of the facts holds an arc that raises v
pub record RaisedBy (g : Net) (L s r : List ℕ) (v i : ℕ) : Type 0 where
  pub below : i < length L
  pub raises : Raises g s r v (at L i)

-- some fact raises v
abbrev pub Raised : Net → List ℕ → List ℕ → List ℕ → ℕ → Type 0
Raised g L s r v = (i : ℕ) × RaisedBy g L s r v i

-- the answer of a test from the times z: times that lie under every timetable of the facts and keep them, or none if no timetable does
pub record TestsFrom (g : Net) (L z : List ℕ) (n : ℕ) (answer : Option (List ℕ)) : Type 0 where
  pub keeps : IfSome answer (λ times. Holds g L (λ v. at times v))
  pub under : IfSome answer (λ times. Under g L times)
  pub risen : IfSome answer (λ times. (m : ℕ) → ((v : ℕ) → at z v ≤ m) → (v : ℕ) → at times v ≤ m + (n - 1) * bias)
  pub unsound : IsNone answer → (t : ℕ → ℕ) → Holds g L t → ⊥

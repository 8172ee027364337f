-- What the test of a set of facts asks and says: 01, "a standing is sound if some timetable satisfies its facts", and "its latest timetable".
-- The facts are arc numbers, the times minutes before closing. Definitions only.
use Rattle.std.specs.Prelude.{◌≡◌, Option, is_some, IfSome, List, ℕ, ◌*◌, ◌≤◌, ◌<◌, length, take}
use Rattle.meaning.specs.Limits.{most_alternatives}
use Rattle.meaning.specs.Problem.{Alternative}
use Rattle.meaning.specs.Decision.{sound, least}
use Rattle.problem.specs.Arcs.{Net, at, Known}
pub use Rattle.problem.specs.Arcs.{places, farthest}

-- the facts L are arcs of the net, over n events; and the net has no more arcs than there are alternatives and opposites
pub record Within (g : Net) (L : List ℕ) (n : ℕ) : Type 0 where
  pub known : Known g n L
  pub few : length g.xs ≤ 2 * most_alternatives

-- arc number j is one of the facts
pub record IsFact (L : List ℕ) (j : ℕ) : Type 0 where
  pub place : ℕ
  pub below : place < length L
  pub same : at L place ≡ j

-- the answer of a test of the facts fs over n events: the latest timetable if they are sound, else none
pub record Tests (fs : List Alternative) (n : ℕ) (answer : Option (List ℕ)) : Type 0 where
  pub decides : is_some answer ≡ sound fs
  pub latest : IfSome answer (λ times. take n times ≡ least n fs)
  pub small : IfSome answer (λ times. (e : ℕ) → at times e ≤ farthest)

-- A standing day's entries as numbers, and the test of one number. What the code keeps, and nothing of A8's meaning. Definitions only.
use Rattle.std.specs.Prelude.{◌≡◌, Bool, cond, not, ◌&&◌, ◌||◌, List, ℕ, ◌*◌, ◌/◌, ◌%◌, ◌<◌, ◌≤◌, leb, ltb, eqb, ℤ, pos, nat_abs, ◌+ℤ◌, length, get_or, Result, Ok}
use Rattle.meaning.specs.Limits.{most_events, opposite_from}
use Rattle.meaning.specs.Problem.{Alternative}
use Rattle.meaning.specs.declared.Refusal.{Refusal}
use Rattle.meaning.specs.Refusal.{told_as}
use Rattle.meaning.specs.Screen.{first_failed}
use Rattle.problem.specs.Arcs.{at, farthest}
use Rattle.distances.specs.Distances.{Distance, none, far}
use Rattle.distances.specs.Adding.{added}
use Rattle.distances.specs.Numbers.{middle, no_way, distance, table_at}
use Rattle.standing.specs.Entries.{no_entry, said, among}
use Rattle.standing.specs.Standing.{is_zero, is_none, new_tests}

-- the number of a distance, and 0 of one out of range
unfoldable pub number_of : Distance → ℕ
number_of none = no_way
number_of (far z) = cond (leb (nat_abs z) farthest) (nat_abs (z +ℤ pos middle)) 0

-- the numbers are those of the entries
pub record Numbered (entries : List ℤ) (s : List ℕ) : Type 0 where
  pub long : length s ≡ most_events * most_events
  pub each : (k : ℕ) → k < most_events * most_events → at s k ≡ number_of (said (get_or entries k no_entry))

-- no number is larger than none's
pub record Capped (s : List ℕ) : Type 0 where
  pub each : (k : ℕ) → k < most_events * most_events → at s k ≤ no_way

-- the distance may stand from u to v: none past the last event, 0 from an event to itself
unfoldable pub placed_at : ℕ → ℕ → ℕ → Distance → Bool
placed_at n u v d = cond (ltb u n && ltb v n) (not (eqb u v) || is_zero d) (is_none d)

-- the arc of an alternative that is the only one, or of its opposite
unfoldable pub arc_number : Bool → ℕ
arc_number o = cond o opposite_from 0

-- a fact is tried on the numbers of a day: the refusal, or the numbers of the day with it
pub record Tries (s : List ℕ) (n : ℕ) (a : Alternative) (tried : Result (List ℕ) Refusal) : Type 0 where
  pub refusal : told_as tried ≡ first_failed (new_tests n (table_at s 0 most_events) a)
  pub entries : (numbers : List ℕ) → tried ≡ Ok numbers → (k : ℕ) → k < most_events * most_events → distance (at numbers k) ≡ among n (added a (table_at s 0 most_events)) (k / most_events) (k % most_events)

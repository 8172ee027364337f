-- A call of `plan` as the meaning's input, and what its parts answer. Definitions only.
use Rattle.std.specs.Prelude.{◌≡◌, List, ◌++◌, ℕ, ◌*◌, ◌<◌, ◌≤◌, ℤ, length, drop, replicate}
use Rattle.meaning.specs.declared.Answer.{Answer}
use Rattle.meaning.specs.declared.Answer.TheVariants.{Plan, None, Unlisted}
use Rattle.meaning.specs.Limits.{row_bytes, blank_byte, no_time}
use Rattle.meaning.specs.Plain.{chosen, product, rank}
use Rattle.meaning.specs.Decision.{latest_of}
use Rattle.meaning.specs.Screen.{Input, refusal, Shows}
use Rattle.problem.specs.declared.Problem.{Problem}
use Rattle.problem.specs.Laid.{clauses_in}
use Rattle.problem.specs.Reads.{given, Reads}
use Rattle.search.specs.declared.Place.{Place}
use Rattle.search.specs.Steps.{positions}

-- what `plan` is lent: the problem, the allowance, and as many elements as the slices have
abbrev pub call : ℕ → List ℤ → List ℕ → ℕ → ℕ → ℕ → ℕ → Input
call n triples counts allowance times picks room = record { lent = given n triples counts; allowance = allowance; times = times; picks = picks; room = room }

-- "all 1; all 255; all 255"
pub record Cleared (timetable : List ℤ) (picks reasons : List ℕ) : Type 0 where
  pub times : timetable ≡ replicate (length timetable) no_time
  pub choice : picks ≡ replicate (length picks) blank_byte
  pub list : reasons ≡ replicate (length reasons) blank_byte

-- an accepted call whose problem is p
pub record Accepts (i : Input) (p : Problem) (allowance times picks room : ℕ) : Type 0 where
  pub reads : Reads i.lent p
  pub taken : refusal i ≡ 0
  pub allows : i.allowance ≡ allowance
  pub has-times : i.times ≡ times
  pub has-picks : i.picks ≡ picks
  pub has_room : i.room ≡ room

-- what is left is what the screen shows, of every accepted call whose problem is p
pub record Answers (p : Problem) (allowance : ℕ) (times picks room : ℕ) (answer : Answer) (timetable : List ℤ) (positions reasons : List ℕ) : Type 0 where
  pub shows : (i : Input) → Accepts i p allowance times picks room → Shows i answer timetable positions reasons

-- the answer of a search that ended without a plan at the place s, by whether its rows fit into so many bytes
pub record Closes (p : Problem) (s : Place) (room : ℕ) (answer : Answer) : Type 0 where
  pub fits : s.rows * row_bytes ≤ room → answer ≡ None s.visits (product (clauses_in p)) s.rows
  pub over : room < s.rows * row_bytes → answer ≡ Unlisted s.visits (product (clauses_in p)) s.rows

-- the answer, the timetable and the picks of the plan at the place s
pub record Plans (p : Problem) (s : Place) (answer : Answer) (times after-times : List ℤ) (picks after-picks : List ℕ) : Type 0 where
  pub says : answer ≡ Plan s.visits (rank (clauses_in p) (positions s))
  pub day : after-times ≡ latest_of p.n (chosen (clauses_in p) (positions s)) ++ drop p.n times
  pub choice : after-picks ≡ positions s ++ drop p.m picks

-- The three demands, of whatever `plan` returned and left in the slices it was lent; and that the two readers bear it out. Assumes nothing.
use mathlib.Core.Path.{◌≡◌}
use mathlib.Core.Logic.{◌⊎◌}
use mathlib.Core.List.{List}
use Prim.Native.Nat.{ℕ, suc, ◌≤◌}
use lib.IntN.{ℤ}
use lib.ListN.{replicate}
use Rattle.meaning.specs.declared.Answer.{Answer}
use Rattle.meaning.specs.declared.Answer.TheVariants.{Plan, None, Refused}
use Rattle.meaning.specs.declared.Verdict.TheVariants.{Yes}
use Rattle.meaning.specs.Limits.{no_time}
use Rattle.meaning.specs.Screen.{Input, clauses_of, refusal, Shows}
use Rattle.meaning.specs.Verdicts.{reasons_verdict, timetable_verdict}
use Rattle.meaning.proofs.Endings.{IsPlan, IsNone, Kept, Means, Fit, shows-means, shows-fit, plan-or-ones, fault-number, demand-two}
use Rattle.meaning.proofs.Settled.{screens-same}
use Rattle.meaning.proofs.Visits.{need}
use Rattle.meaning.proofs.Witnesses.{none_read, plan-read}
use Rattle.problem.specs.Reads.{given}
use Rattle.planner.specs.Call.{call}

-- what `plan` was lent
module _ (n : ℕ) (triples : List ℤ) (counts : List ℕ) (allowance times picks room : ℕ) where
  abbrev pub lent : Input
  lent = call n triples counts allowance times picks room

  -- a result is what the contract of `plan` allows
  abbrev pub Result : Answer → List ℤ → List ℕ → List ℕ → Type 0
  Result answer timetable positions reasons = Shows lent answer timetable positions reasons

  module _ (answer : Answer) (timetable : List ℤ) (positions reasons : List ℕ) (result : Result answer timetable positions reasons) where
    -- 1: "Bad input gets a numbered refusal, fixed for each fault"
    pub one-refusal : (k : ℕ) → refusal lent ≡ suc k → answer ≡ Refused (suc k)
    one-refusal = fault-number lent answer timetable positions reasons result

    -- 1: "On every answer that is not a plan the timetable reads 1 throughout"
    pub one-cleared : IsPlan answer ⊎ (timetable ≡ replicate times no_time)
    one-cleared = plan-or-ones lent answer timetable positions reasons result

    -- 2: "For every accepted problem with enough allowance it gives a timetable in whole minutes exactly when one exists; otherwise none"
    pub two-exactly : refusal lent ≡ 0 → need (clauses_of (given n triples counts)) ≤ allowance → (IsPlan answer × Kept (given n triples counts)) ⊎ (IsNone answer × (Kept (given n triples counts) → ⊥))
    two-exactly = demand-two lent answer timetable positions reasons result

    -- 3: "the first selection in dictionary order that has a timetable, its latest timetable, the number of selections before it, or none"
    pub three-first : Means lent answer timetable positions
    three-first = shows-means lent answer timetable positions reasons result

    -- the numbers of the answer fit in 64 bits, and rows never exceed 5 times the visits
    pub numbers_fit : Fit lent answer
    numbers_fit = shows-fit lent answer timetable positions reasons result

    -- two results for one input are the same, in every element
    pub results_same : (other : Answer) (day : List ℤ) (choice list : List ℕ) → Result other day choice list → (answer ≡ other) × (timetable ≡ day) × (positions ≡ choice) × (reasons ≡ list)
    results_same other day choice list = screens-same lent answer other timetable day positions choice reasons list result

  -- 2: "with a list of reasons. A separate reader accepts that list"
  pub two-list-read : (v b k : ℕ) (timetable : List ℤ) (positions reasons : List ℕ) → Result (None v b k) timetable positions reasons → reasons_verdict (given n triples counts) reasons ≡ Yes
  two-list-read = none_read lent

  -- and every plan's timetable is read yes
  pub two-day-read : (v b : ℕ) (timetable : List ℤ) (positions reasons : List ℕ) → Result (Plan v b) timetable positions reasons → timetable_verdict (given n triples counts) timetable ≡ Yes
  two-day-read = plan-read lent

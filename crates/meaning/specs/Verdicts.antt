-- What the two readers say: 01, "The list of reasons", its last two paragraphs. Definitions only.
use Rattle.std.specs.Prelude.{Bool, true, false, ◌&&◌, ◌||◌, List, [], ◌∷◌, ◌++◌, ℕ, zero, suc, leb, ℤ, length}
use Rattle.meaning.specs.declared.Verdict.{Verdict}
use Rattle.meaning.specs.declared.Verdict.TheVariants.{Yes, No, Refused}
use Rattle.meaning.specs.Limits.{row_bytes}
use Rattle.meaning.specs.Problem.{Clause, Timetable, satisfied}
use Rattle.meaning.specs.Plain.{times_of}
use Rattle.meaning.specs.Reasons.{is_reading}
use Rattle.meaning.specs.Screen.{Lent, clauses_of, problem_tests, first_failed, problem_refusal}

-- "yes, no or a refusal number"
unfoldable pub verdict : ℕ → Bool → Verdict
verdict zero true = Yes
verdict zero false = No
verdict (suc r) b = Refused (suc r)

-- "yes exactly when the front is one whole reading and all bytes after it are 255"
unfoldable pub reasons_verdict : Lent → List ℕ → Verdict
reasons_verdict l list = verdict (problem_refusal l) (is_reading row_bytes (clauses_of l) list)

-- the timetable satisfies an alternative of the clause; one of each clause
unfoldable pub some : Timetable → Clause → Bool
some t [] = false
some t (a ∷ more) = satisfied t a || some t more

unfoldable pub keeps : Timetable → List Clause → Bool
keeps t [] = true
keeps t (c ∷ cs) = some t c && keeps t cs

-- "refusals 1 to 6, then 8 if the timetable is shorter than n"; 12 as A6 has it
unfoldable pub timetable_refusal : Lent → List ℤ → ℕ
timetable_refusal l times = first_failed (problem_tests l ++ (8, leb l.n (length times)) ∷ [])

-- "yes exactly when its first n times keep the problem"
unfoldable pub timetable_verdict : Lent → List ℤ → Verdict
timetable_verdict l times = verdict (timetable_refusal l times) (keeps (times_of times) (clauses_of l))

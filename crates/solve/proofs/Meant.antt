-- What `solve` says is so. Assumes nothing.
-- `sat` where a timetable keeps the problem read, `unsat` where none does, `unknown` where the search needs more visits than it was allowed; a
-- refusal is that of the reading, since `plan` refuses nothing that was read.
use mathlib.Core.Path.{◌≡◌, refl, sym, subst, ◌∙◌}
use mathlib.Core.Bool.{Bool, true, false, cond}
use mathlib.Core.List.{List}
use Prim.Native.Nat.{ℕ, suc, ◌<◌}
use native.Mathlib.Omega.{arith, by_contra}
use mir.Facts.{yes_and, ltb_yes}
use lib.Dec.{T, ltb, leb, le→leb}
use lib.ListN.{length}
use Rattle.meaning.specs.Limits.{most_events, most_clauses, most_allowance}
use Rattle.meaning.specs.Plain.{chosen, times_of}
use Rattle.meaning.specs.Decision.{sound, latest_of}
use Rattle.meaning.specs.Search.{Row, stopped}
use Rattle.meaning.specs.Screen.{Lent, Input, clauses_of, plan_tests, problem_refusal, refusal, Screen, cleared, listed, shown, screen, outcome}
use Rattle.meaning.proofs.Refusals.{none-failed, problem-passed}
use Rattle.meaning.proofs.Accepted.{passes}
use Rattle.meaning.proofs.Demands.{found_first, closed_none}
use Rattle.meaning.proofs.Endings.{Ending, refuses, plans, lists, omits, stops, ending, Kept}
use Rattle.meaning.proofs.Visits.{Stops, need, enough}
use Rattle.std.specs.Prelude.{Result, Ok, Err}
use Rattle.meaning.specs.Refusal.{number_of}
use Rattle.script.specs.declared.Script.{Script}
use Rattle.script.specs.declared.Refused.{Refused as Refusing}
use Rattle.script.specs.Script.{script_in, lent_in, most_bytes}
use Rattle.script.proofs.Fronts.{script-problem}
use Rattle.solve.specs.declared.Saying.{Saying}
use Rattle.solve.specs.declared.Saying.TheVariants.{Sat, Unsat, Unknown, Refused, TooLong}
use Rattle.solve.specs.Says.{of_answer, asked, of_script, says}

-- the text is a script, and P holds of the problem that it says
abbrev pub OfProblem : List ℕ → (Lent → Type 0) → Type 0
OfProblem text P = (s : Script) × (script_in text ≡ Ok s) × P (lent_in s)

abbrev pub Meant : List ℕ → Saying → Type 0
Meant text Sat = OfProblem text Kept
Meant text Unsat = OfProblem text (λ l. Kept l → ⊥)
Meant text Unknown = OfProblem text (λ l. most_allowance < need (clauses_of l))
Meant text (Refused number place) = (e : Refusing) × (script_in text ≡ Err e) × (number ≡ number_of e.refusal) × (place ≡ e.place)
Meant text TooLong = most_bytes < length text

-- the call passes the tests of 7 and 8 too: the allowance is the largest, and there is a time for each event and a pick for each clause
not-refused : (text : List ℕ) (s : Script) → script_in text ≡ Ok s → refusal (asked s) ≡ 0
unfolding refusal plan_tests
not-refused text s z =
    let i : Input = asked s in
    let e : problem_refusal i.lent ≡ 0 = script-problem text s z in
    let p = passes i.lent e in
    problem-passed i.lent (plan_tests i) e
    ∙ none-failed (plan_tests i)
    (le→leb most_allowance most_allowance (omega arith), (yes_and (leb i.lent.n most_events) (leb (length i.lent.counts) most_clauses) (le→leb i.lent.n most_events p.most) (le→leb (length i.lent.counts) most_clauses p.few), tt))

-- by how the call of `plan` ended
module _ (text : List ℕ) (s : Script) (read : script_in text ≡ Ok s) where
  abbrev i : Input
  i = asked s

  -- a search that stopped needs more visits
  too_few : (b : ℕ) (r : List Row) (p : List ℕ) → outcome i ≡ stopped b r p → most_allowance < need (clauses_of i.lent)
  too_few b r p e = by_contra (suc most_allowance) (need (clauses_of i.lent)) (λ h. enough sound (clauses_of i.lent) i.allowance (omega arith) (subst Stops (sym e) tt))

  answer-meant : (x : Screen) → Ending i x → Meant text (of_answer x.answer)
  unfolding of_answer
  answer-meant x (refuses r e q) = absurd (omega (arith, not-refused text s read, e))
  answer-meant x (plans p b w a e q) =
      subst (λ (x : Screen). Meant text (of_answer x.answer)) (sym q)
      (unfold shown in (s, read, (times_of (latest_of i.lent.n (chosen (clauses_of i.lent) p)), (found_first i.lent a i.allowance p b w e).kept)))
  answer-meant x (lists b r w a e f q) =
      subst (λ (x : Screen). Meant text (of_answer x.answer)) (sym q) (unfold listed in (s, read, λ k. (closed_none i.lent a i.allowance b r w e).unkept k.0 k.1))
  answer-meant x (omits b r w a e q) =
      subst (λ (x : Screen). Meant text (of_answer x.answer)) (sym q) (unfold listed cleared in (s, read, λ k. (closed_none i.lent a i.allowance b r w e).unkept k.0 k.1))
  answer-meant x (stops b r p a e q) = subst (λ (x : Screen). Meant text (of_answer x.answer)) (sym q) (unfold cleared in (s, read, too_few b r p e))

pub says-meant : (text : List ℕ) → Meant text (says text)
unfolding says of_script
says-meant text = by_length (ltb most_bytes (length text)) (λ t. ltb_yes t)
  where
    by_script : (r : Result Script Refusing) → script_in text ≡ r → Meant text (of_script r)
    by_script (Ok s) e = answer-meant text s e (screen (asked s)) (ending (asked s))
    by_script (Err d) e = (d, e, refl, refl)

    by_length : (b : Bool) → (T b → most_bytes < length text) → Meant text (cond b TooLong (of_script (script_in text)))
    by_length true h = h tt
    by_length false h = by_script (script_in text) refl

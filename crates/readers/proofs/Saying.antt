-- The verdicts by their refusals: those of the problem, then 8 of a timetable shorter than n. Assumes nothing.
use mathlib.Core.Path.{◌≡◌, refl, sym, ◌∙◌}
use mathlib.Core.Bool.{Bool}
use mathlib.Core.List.{List, [], ◌∷◌}
use Prim.Native.Nat.{ℕ, zero, suc, ◌<◌, ◌≤◌}
use native.Mathlib.Nat.{pos_of_ne-zero}
use native.Mathlib.Omega.{arith}
use borrow.Author.Tests.{le-leb, lt-leb}
use lib.Dec.{leb}
use lib.IntN.{ℤ}
use lib.ListN.{length}
use Rattle.meaning.specs.declared.Verdict.TheVariants.{Refused}
use Rattle.meaning.specs.Limits.{row_bytes}
use Rattle.meaning.specs.Plain.{times_of}
use Rattle.meaning.specs.Reasons.{is_reading}
use Rattle.meaning.specs.Screen.{Lent, clauses_of, first_failed, problem_refusal}
use Rattle.meaning.specs.Verdicts.{verdict, reasons_verdict, keeps, timetable_refusal, timetable_verdict}
use Rattle.meaning.proofs.Refusals.{problem-first, problem-passed}
use Rattle.problem.specs.declared.Problem.{Problem}
use Rattle.problem.specs.Laid.{clauses_in}
use Rattle.problem.specs.Reads.{Reads}

refused : (r : ℕ) (b : Bool) → (r ≡ 0 → ⊥) → verdict r b ≡ Refused r
unfolding verdict
refused zero b n = absurd (n refl)
refused (suc r) b n = refl

module _ (l : Lent) (r : ℕ) (e : r ≡ problem_refusal l) where
  -- a refused problem
  module _ (n : r ≡ 0 → ⊥) where
    pub reasons-refused : (list : List ℕ) → Refused r ≡ reasons_verdict l list
    unfolding reasons_verdict
    reasons-refused list = sym (rw (← e) (refused r (is_reading row_bytes (clauses_of l) list) n))

    pub timetable-refused : (times : List ℤ) → Refused r ≡ timetable_verdict l times
    unfolding timetable_verdict timetable_refusal
    timetable-refused times =
        let o : 0 < problem_refusal l = rw (← e) (pos_of_ne-zero n) in
        sym (rw (problem-first l ((8, leb l.n (length times)) ∷ []) o, ← e) (refused r (keeps (times_of times) (clauses_of l)) n))

  -- an accepted one
  module _ (z : r ≡ 0) (p : Problem) (w : Reads l p) where
    pub reasons-said : (list : List ℕ) → verdict 0 (is_reading row_bytes (clauses_in p) list) ≡ reasons_verdict l list
    unfolding reasons_verdict
    reasons-said list = rw (← e, z, w.clauses) refl

    shorter : (times : List ℤ) → timetable_refusal l times ≡ first_failed ((8, leb l.n (length times)) ∷ [])
    unfolding timetable_refusal
    shorter times = problem-passed l ((8, leb l.n (length times)) ∷ []) (sym e ∙ z)

    module _ (times : List ℤ) where
      pub timetable-short : length times < p.n → Refused 8 ≡ timetable_verdict l times
      unfolding timetable_verdict first_failed verdict
      timetable-short h = rw (shorter times, lt-leb l.n (length times) (omega (arith, w.events))) refl

      pub timetable-said : p.n ≤ length times → verdict 0 (keeps (times_of times) (clauses_in p)) ≡ timetable_verdict l times
      unfolding timetable_verdict first_failed
      timetable-said h = rw (shorter times, le-leb l.n (length times) (omega (arith, w.events)), w.clauses) refl

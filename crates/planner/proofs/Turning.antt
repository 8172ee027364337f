-- What is left by how the run of the search ended. Assumes nothing.
use mathlib.Core.Path.{◌≡◌, sym, ◌∙◌, subst}
use mathlib.Core.Bool.{true}
use mathlib.Core.List.{List, []}
use Prim.Native.Nat.{ℕ}
use native.Mathlib.Omega.{arith}
use lib.IntN.{ℤ}
use lib.ListN.{length, replicate}
use Rattle.laws.proofs.Tests.{is_true}
use Rattle.meaning.specs.declared.Answer.{Answer}
use Rattle.meaning.specs.declared.Answer.TheVariants.{Stopped}
use Rattle.meaning.specs.Limits.{blank_byte, no_time}
use Rattle.meaning.specs.Plain.{chosen, rank}
use Rattle.meaning.specs.Decision.{sound}
use Rattle.meaning.specs.Search.{search}
use Rattle.meaning.specs.Screen.{Shows}
use Rattle.meaning.proofs.Deciding.{sound-decides}
use Rattle.meaning.proofs.First.{plan-first}
use Rattle.problem.specs.declared.Problem.{Problem}
use Rattle.problem.specs.Laid.{clauses_in}
use Rattle.search.specs.declared.Place.{Place}
use Rattle.search.specs.declared.End.TheVariants.{Closed}
use Rattle.search.specs.Steps.{positions, Found, Ended, Left, Stopped as Halted}
use Rattle.planner.specs.Call.{Answers, Cleared, Closes, Plans}
use Rattle.planner.proofs.Answering.{shows-stopped, shows-plan, shows-none}

module _ (p : Problem) (a : ℕ) (s : Place) where
  -- the selection of a plan is sound
  pub plan-sound : Found p a (search sound (clauses_in p) 0 [] a) s → sound (chosen (clauses_in p) (positions s)) ≡ true
  plan-sound h =
      let k = (plan-first sound sound-decides (clauses_in p) a (positions s) h.before _ h.is).0.holds in
      is_true _ (sound-decides.whole _ k.0 k.1)

  module _ (timetable : List ℤ) (picks reasons : List ℕ) (clear : Cleared timetable picks reasons) where
    abbrev T : ℕ
    T = length timetable

    abbrev P : ℕ
    P = length picks

    abbrev R : ℕ
    R = length reasons

    -- reasons that are as they were are blank
    blank : (after : List ℕ) → after ≡ reasons → after ≡ replicate R blank_byte
    blank after e = e ∙ clear.list

    pub answers-closed : (after : List ℕ) (answer : Answer) → length after ≡ length reasons → Left (Closed s) reasons after → Ended p a (search sound (clauses_in p) 0 [] a) s after → Closes p s (length after) answer → Answers p a T P R answer timetable picks after
    answers-closed after answer size left h k =
        record {
          shows = λ i accepts. subst (λ (t : List ℤ). Shows i answer t picks after) (sym clear.times) (subst (λ (q : List ℕ). Shows i answer (replicate T no_time) q after) (sym clear.choice) (shows-none p a i T P R accepts s after answer size (λ l. blank after (left (omega (arith, size)))) h k));
        }

    pub answers-stopped : (answer : Answer) (after : List ℕ) → after ≡ reasons → answer ≡ Stopped s.visits (rank (clauses_in p) (positions s)) → Halted p a (search sound (clauses_in p) 0 [] a) s → Answers p a T P R answer timetable picks after
    answers-stopped answer after left says h =
        record {
          shows = λ i accepts. subst (λ (r : List ℕ). Shows i answer timetable picks r) (sym (blank after left)) (subst (λ (t : List ℤ). Shows i answer t picks (replicate R blank_byte)) (sym clear.times) (subst (λ (q : List ℕ). Shows i answer (replicate T no_time) q (replicate R blank_byte)) (sym clear.choice) (subst (λ (x : Answer). Shows i x (replicate T no_time) (replicate P blank_byte) (replicate R blank_byte)) (sym says) (shows-stopped p a i T P R accepts s h))));
        }

    pub answers-found : (answer : Answer) (after : List ℕ) (day : List ℤ) (choice : List ℕ) → length s.standing.picks ≡ 32 → after ≡ reasons → Found p a (search sound (clauses_in p) 0 [] a) s → Plans p s answer timetable day picks choice → Answers p a T P R answer day choice after
    answers-found answer after day choice long left h k =
        record {
          shows = λ i accepts. subst (λ (r : List ℕ). Shows i answer day choice r) (sym (blank after left)) (shows-plan p a i T P R accepts s answer day choice long h (subst (λ (t : List ℤ). Plans p s answer t day (replicate P blank_byte) choice) clear.times (subst (λ (q : List ℕ). Plans p s answer timetable day q choice) clear.choice k)));
        }

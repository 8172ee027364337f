-- A timetable against the clauses, one alternative and one clause at a time. Assumes nothing.
use mathlib.Core.Path.{◌≡◌, refl, ap}
use mathlib.Core.Bool.{◌&&◌, ◌||◌}
use Prim.Native.Nat.{ℕ, zero, suc}
use native.Mathlib.Numerals.{add-one}
use Rattle.std.specs.List.{list_any, list_all, range_with_len}
use Rattle.meaning.specs.Problem.{Timetable, satisfied}
use Rattle.meaning.specs.Verdicts.{some, keeps}
use Rattle.problem.specs.declared.Problem.{Problem}
use Rattle.problem.specs.Arcs.{Net, arc, arcs_from}
use Rattle.problem.specs.Laid.{clause_of, clauses_from}

module _ (t : Timetable) where
  -- one of n alternatives from number j on
  pub some-any : (g : Net) (j n : ℕ) → list_any (λ i. satisfied t (arc g i)) (range_with_len j n) ≡ some t (arcs_from g j n)
  unfolding some arcs_from
  some-any g j zero = refl
  some-any g j (suc n) = rw (add-one j) (ap (λ b. satisfied t (arc g j) || b) (some-any g (suc j) n))

  -- each of n clauses from number k on
  pub keeps-all : (p : Problem) (k n : ℕ) → list_all (λ i. some t (clause_of p i)) (range_with_len k n) ≡ keeps t (clauses_from p k n)
  unfolding keeps clauses_from
  keeps-all p k zero = refl
  keeps-all p k (suc n) = rw (add-one k) (ap (λ b. some t (clause_of p k) && b) (keeps-all p (suc k) n))

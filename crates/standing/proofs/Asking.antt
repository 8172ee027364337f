-- What is asked for, read as a problem of one clause: its refusals are those of A8, and its arcs 0 and 64 are the alternative and its opposite. Assumes nothing.
use Rattle.std.specs.Prelude.{Result}
use Rattle.meaning.specs.declared.Refusal.{Refusal}
use mathlib.Core.Path.{◌≡◌, refl, sym, ap, ◌∙◌, subst}
use mathlib.Core.Bool.{Bool, true, false, ◌&&◌}
use mathlib.Core.List.{List, [], ◌∷◌}
use Prim.Native.Nat.{ℕ, ◌<◌}
use native.Mathlib.Omega.{arith}
use lib.IntN.{ℤ}
use lib.ListN.{get_or}
use Rattle.meaning.specs.Problem.{Alternative, Clause, opposite}
use Rattle.meaning.specs.Plain.{nowhere}
use Rattle.meaning.specs.Screen.{are_events, are_apart, is_bound, is_size, stepped, events, bounds, alternatives, parted, clauses_of, problem_tests, first_failed, problem_refusal}
use Rattle.problem.specs.declared.Problem.{Problem}
use Rattle.problem.specs.Arcs.{Net, Arc, arc, at, arcs_from}
use Rattle.problem.specs.Laid.{arcs, clauses_from, clauses_in}
use Rattle.problem.specs.Loaded.{IsLoaded}
use Rattle.problem.specs.Reads.{given, Reads}
use Rattle.standing.specs.Standing.{stated, asked, fact_tests}
use Rattle.standing.specs.Numbers.{arc_number, Tries}

and-true : (b : Bool) → (b && true) ≡ b
and-true true = refl
and-true false = refl

module _ (n : ℕ) (x y c : ℤ) where
  pub fact-refusal : is_size n ≡ true → problem_refusal (given n (x ∷ y ∷ c ∷ []) (1 ∷ [])) ≡ first_failed (fact_tests n x y c)
  unfolding problem_refusal problem_tests first_failed fact_tests stepped events bounds
  fact-refusal e = rw (e, and-true (are_events n x y), and-true (are_apart x y), and-true (is_bound c)) refl

  module _ (p : Problem) (reads : Reads (given n (x ∷ y ∷ c ∷ []) (1 ∷ [])) p) (is : IsLoaded (given n (x ∷ y ∷ c ∷ []) (1 ∷ [])) p) where
    -- there is one alternative, in one clause
    one : at p.starts p.m ≡ 1
    one = rw (is.m, is.starts) refl

    one-clause : clauses_in p ≡ (arc (arcs p) 0 ∷ []) ∷ []
    unfolding clauses_from arcs_from
    one-clause = simp (is.m, is.starts) refl

    arc-stated : arc (arcs p) 0 ≡ stated x y c
    unfolding clauses_of parted alternatives
    arc-stated = sym (ap (λ (cs : List Clause). get_or (get_or cs 0 []) 0 nowhere) (reads.clauses ∙ one-clause))

    pub arc-asked : (o : Bool) → arc (arcs p) (arc_number o) ≡ asked x y c o
    unfolding arc_number
    arc-asked false = arc-stated
    arc-asked true = sym (p.laid.opposites 0 (omega (arith, one))) ∙ ap opposite arc-stated

    pub arc-there : (o : Bool) → Arc (arcs p) p.n (arc_number o)
    unfolding arc_number
    arc-there false = p.laid.alternative 0 (omega (arith, one))
    arc-there true = p.laid.turned 0 (omega (arith, one))

-- ---- the arc under the fact's name
pub tries-as : {s : List ℕ} {m n : ℕ} {a b : Alternative} {r : Result (List ℕ) Refusal} → m ≡ n → b ≡ a → Tries s m b r → Tries s n a r
tries-as {s} {m} {n} {a} {b} {r} e f h = subst (λ (n : ℕ). Tries s n a r) e (subst (λ (a : Alternative). Tries s m a r) f h)

pub inside-as : {g : Net} {m n j : ℕ} {a : Alternative} → m ≡ n → arc g j ≡ a → Arc g m j → (a.x < n) × (a.y < n)
inside-as {g} {m} {n} {j} {a} e f h = subst (λ (n : ℕ). (a.x < n) × (a.y < n)) e (subst (λ (a : Alternative). (a.x < m) × (a.y < m)) f (h.in_head, h.in_tail))

-- Whether a clause of arcs is dead, arc by arc, and the lowest dead clause, clause by clause. Assumes nothing.
use mathlib.Core.Path.{◌≡◌, refl, sym, ap, ◌∙◌}
use mathlib.Core.Bool.{Bool, true, false, cond, not, ◌&&◌}
use mathlib.Core.Option
use mathlib.Core.Option.{Option, some, none}
use mathlib.Core.List.{List, [], ◌∷◌, ◌++◌, map, map-append}
use Prim.Native.Nat.{ℕ, zero, suc, ◌+◌, ◌-◌, ◌<◌, ◌≤◌}
use native.Mathlib.Omega.{arith}
use native.Mathlib.Numerals.{add-one}
use Rattle.std.specs.List.{list_all, range_with_len}
use Rattle.meaning.specs.Problem.{Alternative}
use Rattle.meaning.specs.Decision.{sound}
use Rattle.meaning.specs.Search.{dead, first_dead}
use Rattle.meaning.proofs.First.{unsound-first}
use Rattle.problem.specs.declared.Problem.{Problem}
use Rattle.problem.specs.Arcs.{Net, arc, arcs_from}
use Rattle.problem.specs.Laid.{clause_of, clauses_from}
use Rattle.problem.proofs.Laying.{arcs-first, arcs-split}

-- the arcs up to j, by the last of them
pub arcs-last : {A : Type 0} (f : Alternative → A) (g : Net) (i j : ℕ) → i ≤ j → map f (arcs_from g i (j + 1 - i)) ≡ map f (arcs_from g i (j - i)) ++ f (arc g j) ∷ []
unfolding arcs_from
arcs-last f g i j h =
    ap (λ (n : ℕ). map f (arcs_from g i n)) (let e : j + 1 - i ≡ j - i + 1 = omega arith in e)
    ∙ ap (map f) (arcs-split g i (j - i) 1)
    ∙ map-append f (arcs_from g i (j - i)) (arcs_from g (i + (j - i)) 1)
    ∙ ap (λ (d : ℕ). map f (arcs_from g i (j - i)) ++ f (arc g d) ∷ []) (let e : i + (j - i) ≡ j = omega arith in e)

and-not : (b r s : Bool) → r ≡ s → not b && r ≡ cond b false s
and-not true r s e = refl
and-not false r s e = e

module _ (fs : List Alternative) (g : Net) where
  -- where all are dead, the first is
  pub dead-all : (j end : ℕ) → j < end → dead sound fs (arcs_from g j (end - j)) ≡ true → (sound (arc g j ∷ fs) ≡ false) × (dead sound fs (arcs_from g (j + 1) (end - (j + 1))) ≡ true)
  unfolding dead
  dead-all j end h e = unsound-first (sound (arc g j ∷ fs)) (dead sound fs (arcs_from g (j + 1) (end - (j + 1)))) (sym (ap (dead sound fs) (arcs-first g j end h)) ∙ e)

  -- n arcs from j on are dead where each is
  pub dead-each : (j n : ℕ) → list_all (λ i. not (sound (arc g i ∷ fs))) (range_with_len j n) ≡ dead sound fs (arcs_from g j n)
  unfolding dead arcs_from
  dead-each j zero = refl
  dead-each j (suc n) = rw (add-one j) (and-not (sound (arc g j ∷ fs)) _ _ (dead-each (suc j) n))

-- the clauses from d up to m, by the first of them
pub clauses-first : (p : Problem) (d m : ℕ) → d < m → clauses_from p d (m - d) ≡ clause_of p d ∷ clauses_from p (d + 1) (m - (d + 1))
unfolding clauses_from
clauses-first p d m h =
    ap (clauses_from p d) (let e : m - d ≡ suc (m - (d + 1)) = omega arith in e)
    ∙ ap (λ (i : ℕ). clause_of p d ∷ clauses_from p i (m - (d + 1))) (let e : suc d ≡ d + 1 = omega arith in e)

-- the lowest dead one of n clauses from d on
module _ (p : Problem) (fs : List Alternative) where
  pub first-none : (d n : ℕ) → ((i : ℕ) → d ≤ i → i < d + n → false ≡ dead sound fs (clause_of p i)) → first_dead sound fs (clauses_from p d n) ≡ none
  unfolding first_dead clauses_from
  first-none d zero h = refl
  first-none d (suc n) h =
      rw (← h d (omega arith) (omega arith)) (ap (Option.map suc) (first-none (suc d) n (λ i l m. h i (omega arith) (omega arith))))

  pub first-some : (d n i : ℕ) → i < n → true ≡ dead sound fs (clause_of p (d + i)) → ((k : ℕ) → d ≤ k → k < d + i → false ≡ dead sound fs (clause_of p k)) → first_dead sound fs (clauses_from p d n) ≡ some i
  unfolding first_dead clauses_from
  first-some d zero i l e h = absurd (omega arith)
  first-some d (suc n) zero l e h =
      let here : true ≡ dead sound fs (clause_of p d) = rw (let q : d + 0 ≡ d = omega arith in q) at e in
      rw (← here) refl
  first-some d (suc n) (suc i) l e h =
      rw (← h d (omega arith) (omega arith)) (ap (Option.map suc) (first-some (suc d) n i (omega arith) (let q : d + suc i ≡ suc d + i = omega arith in rw q at e) (λ k a b. h k (omega arith) (omega arith))))

-- The clauses of a checked problem, one clause at a time. Assumes nothing.
use mathlib.Core.Path.{◌≡◌, refl, ap, ◌∙◌}
use mathlib.Core.List.{[], ◌∷◌}
use Prim.Native.Nat.{ℕ, zero, suc, ◌+◌, ◌-◌}
use native.Mathlib.Omega.{arith}
use Rattle.problem.specs.declared.Problem.{Problem}
use Rattle.problem.specs.Laid.{clause_of, clauses_from}

module _ (p : Problem) where
  pub clauses-more : (k left : ℕ) → (left ≡ 0 → ⊥) → clauses_from p k left ≡ clause_of p k ∷ clauses_from p (k + 1) (left - 1)
  unfolding clauses_from
  clauses-more k zero h = absurd (h refl)
  clauses-more k (suc left) h =
      let q : left ≡ suc left - 1 = omega arith in
      let z : suc k ≡ k + 1 = omega arith in
      ap (λ (i : ℕ). clause_of p k ∷ clauses_from p i left) z ∙ ap (λ (i : ℕ). clause_of p k ∷ clauses_from p (k + 1) i) q

  pub clauses-none : (k left : ℕ) → left ≡ 0 → clauses_from p k left ≡ []
  unfolding clauses_from
  clauses-none k left h = ap (clauses_from p k) h

-- The forced facts of a checked problem, clause by clause from the last. Assumes nothing.
use mathlib.Core.Path.{◌≡◌, refl, sym, ap, ap₂, ◌∙◌}
use mathlib.Core.List.{List, [], ◌∷◌}
use Prim.Native.Nat.{ℕ, zero, suc, ◌+◌, ◌-◌, ◌<◌, ◌≤◌}
use native.Mathlib.Omega.{arith}
use native.Mathlib.Numerals.{add-one}
use Rattle.meaning.specs.Problem.{Clause}
use Rattle.meaning.specs.Lamps.{forced}
use Rattle.problem.specs.declared.Problem.{Problem}
use Rattle.problem.specs.Arcs.{Net, at, arc, arcs_from}
use Rattle.problem.specs.Laid.{arcs, size_of, clause_of, clauses_from, clauses_in}

forced-one : (g : Net) (j s : ℕ) (cs : List Clause) → s ≡ 1 → forced (arcs_from g j s ∷ cs) ≡ arc g j ∷ forced cs
unfolding forced arcs_from
forced-one g j s cs e = rw e

forced-other : (g : Net) (j s : ℕ) (cs : List Clause) → (s ≡ 1 → ⊥) → forced (arcs_from g j s ∷ cs) ≡ forced cs
unfolding forced arcs_from
forced-other g j zero cs e = refl
forced-other g j (suc zero) cs e = absurd (e refl)
forced-other g j (suc (suc s)) cs e = refl

pub forced-none : (p : Problem) (k : ℕ) → forced (clauses_from p k (k - k)) ≡ []
unfolding forced clauses_from
forced-none p k = rw (let e : k - k ≡ 0 = omega arith in e)

pub forced-all : (p : Problem) (k : ℕ) → k ≡ 0 → forced (clauses_from p k (p.m - k)) ≡ forced (clauses_in p)
forced-all p k e = ap₂ (λ (i n : ℕ). forced (clauses_from p i n)) e (let z : p.m - k ≡ p.m = omega arith in z)

-- with the clause before clause k
module _ (p : Problem) (k : ℕ) (some : 0 < k) (most : k ≤ p.m) where
  before : clauses_from p (k - 1) (p.m - (k - 1)) ≡ clause_of p (k - 1) ∷ clauses_from p k (p.m - k)
  unfolding clauses_from
  before =
      ap (clauses_from p (k - 1)) (let e : p.m - (k - 1) ≡ suc (p.m - k) = omega arith in e)
      ∙ ap (λ (i : ℕ). clause_of p (k - 1) ∷ clauses_from p i (p.m - k)) (let e : suc (k - 1) ≡ k = omega arith in e)

  size-before : at p.starts (k - 1 + 1) - at p.starts (k - 1) ≡ size_of p (k - 1)
  size-before = ap (λ (i : ℕ). at p.starts i - at p.starts (k - 1)) (add-one (k - 1))

  pub forced-taken : at p.starts (k - 1 + 1) - at p.starts (k - 1) ≡ 1
      → arc (arcs p) (at p.starts (k - 1)) ∷ forced (clauses_from p k (p.m - k)) ≡ forced (clauses_from p (k - 1) (p.m - (k - 1)))
  forced-taken e = sym (ap forced before ∙ forced-one (arcs p) (at p.starts (k - 1)) (size_of p (k - 1)) (clauses_from p k (p.m - k)) (sym size-before ∙ e))

  pub forced-passed : (at p.starts (k - 1 + 1) - at p.starts (k - 1) ≡ 1 → ⊥)
      → forced (clauses_from p k (p.m - k)) ≡ forced (clauses_from p (k - 1) (p.m - (k - 1)))
  forced-passed e = sym (ap forced before ∙ forced-other (arcs p) (at p.starts (k - 1)) (size_of p (k - 1)) (clauses_from p k (p.m - k)) (λ z. e (size-before ∙ z)))

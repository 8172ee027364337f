-- Laws of a checked problem by value: arcs in a row, and where the numbers of a clause lie. Assumes nothing.
use mathlib.Core.Path.{◌≡◌, refl, ap, ap₂, ◌∙◌}
use mathlib.Core.List.{[], ◌∷◌, ◌++◌}
use Prim.Native.Nat.{ℕ, zero, suc, ◌+◌, ◌-◌, ◌<◌, ◌≤◌}
use native.Mathlib.Nat.{not-suc-le-zero, le_of_suc-le-suc}
use native.Mathlib.Omega.{arith}
use lib.ListN.{length, get_or, drop}
use Rattle.meaning.specs.Limits.{most_in_clause}
use Rattle.meaning.specs.Problem.{Clause}
use Rattle.problem.specs.declared.Problem.{Problem}
use Rattle.problem.specs.Arcs.{Net, at, arc, arcs_from}
use Rattle.problem.specs.Laid.{size_of, clause_of, clauses_from, clauses_in}

pub arcs-length : (g : Net) (j k : ℕ) → length (arcs_from g j k) ≡ k
unfolding arcs_from
arcs-length g j zero = refl
arcs-length g j (suc k) = ap suc (arcs-length g (suc j) k)

-- the arcs from j up to `end`, by the first of them
pub arcs-first : (g : Net) (j end : ℕ) → j < end → arcs_from g j (end - j) ≡ arc g j ∷ arcs_from g (j + 1) (end - (j + 1))
unfolding arcs_from
arcs-first g j end h =
    ap (arcs_from g j) (let e : end - j ≡ suc (end - (j + 1)) = omega arith in e)
    ∙ ap (λ (i : ℕ). arc g j ∷ arcs_from g i (end - (j + 1))) (let e : suc j ≡ j + 1 = omega arith in e)

pub arcs-none : (g : Net) (j end : ℕ) → end ≤ j → arcs_from g j (end - j) ≡ []
unfolding arcs_from
arcs-none g j end h = ap (arcs_from g j) (let e : end - j ≡ 0 = omega arith in e)

-- and in two parts
pub arcs-split : (g : Net) (j a b : ℕ) → arcs_from g j (a + b) ≡ arcs_from g j a ++ arcs_from g (j + a) b
unfolding arcs_from
arcs-split g j zero b = ap₂ (arcs_from g) (let e : j ≡ j + 0 = omega arith in e) (let e : 0 + b ≡ b = omega arith in e)
arcs-split g j (suc a) b =
    ap (arcs_from g j) (let e : suc a + b ≡ suc (a + b) = omega arith in e)
    ∙ ap (λ (l : Clause). arc g j ∷ l) (arcs-split g (suc j) a b ∙ ap (λ (i : ℕ). arcs_from g (suc j) a ++ arcs_from g i b) (let e : suc j + a ≡ j + suc a = omega arith in e))

pub clauses-length : (p : Problem) (k c : ℕ) → length (clauses_from p k c) ≡ c
unfolding clauses_from
clauses-length p k zero = refl
clauses-length p k (suc c) = ap suc (clauses-length p (suc k) c)

pub clause-at : (p : Problem) (k c i : ℕ) → i < c → get_or (clauses_from p k c) i [] ≡ clause_of p (k + i)
unfolding clauses_from
clause-at p k zero i l = absurd (not-suc-le-zero l)
clause-at p k (suc c) zero l = ap (clause_of p) (let e : k ≡ k + 0 = omega arith in e)
clause-at p k (suc c) (suc i) l =
    clause-at p (suc k) c i (le_of_suc-le-suc l) ∙ ap (clause_of p) (let e : suc k + i ≡ k + suc i = omega arith in e)

pub clause-of : (p : Problem) (k : ℕ) → k < p.m → get_or (clauses_in p) k [] ≡ clause_of p k
clause-of p k l = clause-at p 0 p.m k l ∙ ap (clause_of p) (let e : 0 + k ≡ k = omega arith in e)

pub clauses-drop : (p : Problem) (k c i : ℕ) → i ≤ c → drop i (clauses_from p k c) ≡ clauses_from p (k + i) (c - i)
unfolding clauses_from
clauses-drop p k c zero l = rw (let e : k + 0 ≡ k = omega arith in e) (rw (let e : c - 0 ≡ c = omega arith in e))
clauses-drop p k zero (suc i) l = absurd (not-suc-le-zero l)
clauses-drop p k (suc c) (suc i) l =
    clauses-drop p (suc k) c i (le_of_suc-le-suc l)
    ∙ rw (let e : suc k + i ≡ k + suc i = omega arith in e) (rw (let e : suc c - suc i ≡ c - i = omega arith in e))

module _ (p : Problem) (k : ℕ) (h : k < p.m) where
  -- the clause's numbers end where the next one's begin, no further than the last
  pub clause-ends : at p.starts k + size_of p k ≤ at p.starts p.m
  clause-ends = omega (arith, p.laid.rises k h, p.laid.ends (suc k) h)

  pub clause-last : at p.starts (suc k) ≡ at p.starts k + size_of p k
  clause-last = omega (arith, p.laid.rises k h)

  pub size-most : size_of p k ≤ most_in_clause
  size-most = omega (arith, p.laid.rises k h)

  -- a position of it is the number of an alternative
  pub position-below : (i : ℕ) → i < size_of p k → at p.starts k + i < at p.starts p.m
  position-below i l = omega (arith, clause-ends)

-- The facts of a standing are those of the one above it and of its last position. Assumes nothing.
use mathlib.Core.Path.{◌≡◌, refl, sym, ap, ◌∙◌}
use mathlib.Core.List.{List, [], ◌∷◌, ◌++◌}
use Prim.Native.Nat.{ℕ, suc, ◌+◌, ◌-◌, ◌<◌}
use native.Mathlib.Nat.{not-suc-le-zero, le_of_suc-le-suc}
use native.Mathlib.Omega.{arith}
use lib.ListN.{length, get_or, take, length-take}
use lib.Seq.{take-suc}
use Rattle.meaning.specs.Problem.{Alternative, Clause}
use Rattle.meaning.specs.Search.{taking, facts}
use Rattle.problem.specs.declared.Problem.{Problem}
use Rattle.problem.specs.Arcs.{at, arc}
use Rattle.problem.specs.Laid.{arcs, size_of, clauses_in}
use Rattle.problem.proofs.Laying.{clauses-length, clause-of, clause-ends}
use Rattle.taking.specs.Taking.{passed, taken}
use Rattle.taking.proofs.Passing.{taking-passed}
use Rattle.search.specs.Depths.{facts_at}

facts-nothing : (cs : List Clause) (fs : List Alternative) → facts cs [] fs ≡ fs
facts-nothing [] fs = refl
facts-nothing (c ∷ cs) fs = refl

facts-last : (cs : List Clause) (q : List ℕ) (i : ℕ) (fs : List Alternative) → length q < length cs → facts cs (q ++ i ∷ []) fs ≡ taking i (get_or cs (length q) []) (facts cs q fs)
facts-last [] q i fs l = absurd (not-suc-le-zero l)
facts-last (c ∷ cs) [] i fs l = facts-nothing cs (taking i c fs)
facts-last (c ∷ cs) (j ∷ q) i fs l = facts-last cs q i (taking j c fs) (le_of_suc-le-suc l)

-- the facts of a standing are those of the one above it and of its last position
pub facts-deeper : (p : Problem) (picks : List ℕ) (c : ℕ) → length picks ≡ 32 → c < p.m → at picks c < size_of p c → taken (arcs p) (at p.starts c) (at p.starts c + at picks c) (facts_at p picks c) ≡ facts_at p picks (c + 1)
facts-deeper p picks c long l h =
    sym
    (ap (λ (q : List ℕ). facts (clauses_in p) q []) (ap (λ (d : ℕ). take d picks) (let e : c + 1 ≡ suc c = omega arith in e) ∙ take-suc picks c 0 (omega (arith, p.laid.few)))
    ∙ facts-last (clauses_in p) (take c picks) (at picks c) [] (omega (arith, clauses-length p 0 p.m, deep))
    ∙ ap (λ (d : Clause). taking (at picks c) d (facts_at p picks c)) (ap (λ (d : ℕ). get_or (clauses_in p) d []) deep ∙ clause-of p c l)
    ∙ taking-passed p (at p.starts c) (size_of p c) (at picks c) (facts_at p picks c) (clause-ends p c l) h
    ∙ ap (λ (i : ℕ). arc (arcs p) (at p.starts c + at picks c) ∷ passed (arcs p) (at p.starts c) i (facts_at p picks c)) (let e : at picks c ≡ at p.starts c + at picks c - at p.starts c = omega arith in e))
  where
    deep : length (take c picks) ≡ c
    deep = omega (arith, length-take c picks, p.laid.few)

-- Ranks and products fit in 64 bits: clauses of at most 4 alternatives, 64 in all, have at most 2 ^ 63 selections. Assumes nothing.
use mathlib.Core.Path.{◌≡◌, refl}
use mathlib.Core.Logic.{◌⊎◌, inl, inr, ⊎_elim}
use mathlib.Core.List.{List, [], ◌∷◌}
use Prim.Native.Nat.{ℕ, zero, suc, ◌+◌, ◌*◌, ◌^◌, ◌≤◌}
use native.Mathlib.Nat.{mul-le-mul, mul-le-mul_right, suc-mul, zero-mul, mul_assoc}
use native.Mathlib.Omega.{arith}
use lib.ListN.{length}
use lib.Pow.{pow-add, pow_mono}
use Rattle.meaning.specs.Limits.{most_in_clause, most_alternatives}
use Rattle.meaning.specs.Problem.{Clause}
use Rattle.meaning.specs.Plain.{product, rank}
use Rattle.meaning.specs.Search.{Standing}
use Rattle.meaning.proofs.Accepted.{sizes}
use Rattle.meaning.proofs.Rows.{Short}

-- a clause that is not empty at least halves what its alternatives could give
double : (s : ℕ) → s ≤ most_in_clause → (s ≡ 0) ⊎ (2 * s ≤ 2 ^ s)
double zero h = inl refl
double (suc zero) h = inr (omega arith)
double (suc (suc zero)) h = inr (omega arith)
double (suc (suc (suc zero))) h = inr (omega arith)
double (suc (suc (suc (suc zero)))) h = inr (omega arith)
double (suc (suc (suc (suc (suc s))))) h = absurd (omega arith)

product_le : (cs : List Clause) → Short cs → product cs ≤ 2 ^ sizes cs
unfolding product sizes
product_le [] h = omega arith
product_le (c ∷ cs) h =
    let ih = product_le cs h.1 in
    rw (pow-add 2 (length c) (sizes cs)) (mul-le-mul (le-pow (length c) h.0) ih)
  where
    le-pow : (s : ℕ) → s ≤ most_in_clause → s ≤ 2 ^ s
    le-pow s l = ⊎_elim (λ e. omega arith) (λ d. omega arith) (double s l)

pub product-fits : (cs : List Clause) → Short cs → sizes cs ≤ most_alternatives → product cs ≤ 2 ^ 63
unfolding product sizes
product-fits [] h l = omega arith
product-fits (c ∷ cs) h l =
    let ih = product_le cs h.1 in
    ⊎_elim
    (λ (e : length c ≡ 0). rw e (rw (zero-mul (product cs)) (omega arith)))
    (λ (d : 2 * length c ≤ 2 ^ length c).
    let m : 2 * length c * product cs ≤ 2 ^ length c * 2 ^ sizes cs = mul-le-mul d ih in
    let a : 2 * length c * product cs ≡ 2 * (length c * product cs) = mul_assoc 2 (length c) (product cs) in
    let p = pow-add 2 (length c) (sizes cs) in
    let t : 2 ^ (length c + sizes cs) ≤ 2 ^ most_alternatives = pow_mono l in
    omega arith)
    (double (length c) h.0)

-- the rank of a standing is no more than the number of selections
pub rank-within : (cs : List Clause) (p : List ℕ) → Standing cs p → rank cs p ≤ product cs
unfolding rank product
rank-within [] p s = omega arith
rank-within (c ∷ cs) [] s = omega arith
rank-within (c ∷ cs) (i ∷ p) s = omega (arith, rank-within cs p s.1, mul-le-mul_right (product cs) s.0, suc-mul i (product cs))

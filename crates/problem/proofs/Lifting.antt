-- Bounds as naturals: a bound and its opposite's, with the bias added, and back. Assumes nothing.
use mathlib.Core.Path.{◌≡◌, refl, sym, ap, ◌∙◌}
use Prim.Native.Nat.{zero, suc, ◌+◌, ◌-◌, ◌*◌, ◌≤◌}
use native.Mathlib.Omega.{arith}
use lib.IntN.{ℤ, pos, negsuc, nat_abs, neg_ℤ, pred_ℤ, sub_ℕ, ◌+ℤ◌}
use Rattle.laws.proofs.Differences.{above-is}
use Rattle.laws.proofs.Integers.{Lifts as Lifted, lifts-by, lifted-back}
use Rattle.meaning.specs.Limits.{most_bound}
use Rattle.problem.specs.Arcs.{bias}

-- the natural number that a bound or an opposite's bound is with the bias added
abbrev pub Lifts : ℤ → Type 0
Lifts c = Lifted bias c

pub lifts : (c : ℤ) → nat_abs c ≤ most_bound → Lifts c
lifts c h = lifts-by bias c (omega arith)

-- a bound's and its opposite's add up to 2 · most_bound + 1
pub lifts-opposite : (c : ℤ) → nat_abs c ≤ most_bound → pred_ℤ (neg_ℤ c) +ℤ pos bias ≡ pos (2 * most_bound + 1 - nat_abs (c +ℤ pos bias))
lifts-opposite (pos zero) h = refl
lifts-opposite (pos (suc n)) h =
    let q : bias - suc (suc n) ≡ 2 * most_bound + 1 - (suc n + bias) = omega arith in
    above-is bias (suc (suc n)) (omega arith) ∙ ap pos q
lifts-opposite (negsuc n) h =
    let q : n + bias ≡ 2 * most_bound + 1 - (bias - suc n) = omega arith in
    ap pos q ∙ ap (λ (z : ℤ). pos (2 * most_bound + 1 - nat_abs z)) (sym (above-is bias (suc n) (omega arith)))

-- the bias taken off again
pub unbiased : (c : ℤ) → Lifts c → sub_ℕ (nat_abs (c +ℤ pos bias)) bias ≡ c
unbiased c l = lifted-back bias c l

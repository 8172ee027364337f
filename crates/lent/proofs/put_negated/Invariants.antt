use Rattle.std.proofs.Common.{◌≡◌, ◌++◌, map, ℕ, take, drop, ℤ, pos, neg_ℤ}
use Rattle.lent.proofs.put_negated.Given as goal

abbrev pub minus : ℕ → ℤ
minus m = neg_ℤ (pos m)

abbrev pub invariant-loop-i : goal.invariant-loop-i
invariant-loop-i l = l.s ≡ take l.i (map minus l.d) ++ drop l.i l.fn.s

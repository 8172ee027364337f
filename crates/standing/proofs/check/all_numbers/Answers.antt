-- `all_numbers` meets its contract. Assumes nothing.
use mathlib.Core.Path.{◌≡◌, refl}
use mathlib.Core.Bool.{true, false}
use native.Mathlib.Omega.{arith}
use Prim.Native.Nat.{ℕ}
use borrow.Author.Rules.{rules}
use Rattle.std.proofs.lemmas.Iterator.{cases_from_all, YieldsList-from_slice}
use Rattle.distances.specs.Numbers.{distance}
use Rattle.standing.specs.Standing.{in_range}
use Rattle.standing.proofs.Every.{every-of}
use Rattle.standing.proofs.check.all_numbers.Goals as goal

pub returns : goal.returns
returns c =
    every-of (λ (e : ℕ). in_range (distance e)) c.args.s.now 0 _ _ _ (omega arith) (λ k l. refl)
    (cases_from_all _ _ _ (λ (e : ℕ). in_range (distance e) ≡ true) (λ (e : ℕ). in_range (distance e) ≡ false) c.all.ensures.ran (YieldsList-from_slice c.args.s.now cc) (λ x q k. search rules) (λ x q k. search rules))

-- `begin` meets its contract. Assumes nothing.
use mathlib.Core.Path.{◌≡◌, ap, ◌∙◌}
use Prim.Native.Nat.{ℕ}
use Rattle.std.proofs.Common.{replicate}
use Rattle.std.proofs.lemmas.List.{places}
use borrow.Author.Rules.{rules}
use Rattle.distances.specs.Numbers.{no_way}
use native.Mathlib.Omega.{arith}
use Rattle.distances.proofs.Beginning.{started-more, filled, begun}
use Rattle.distances.proofs.begin.Goals as goal

pub loop-u-preserved : goal.loop-u-preserved
loop-u-preserved c =
    started-more _ _ _ _ c.args.day.wide c.loop-u.s c.loop-u.u c.loop-u.invariant (omega arith) (omega arith) c.place.ensures

pub returns : goal.returns
returns c =
    let e : c.loop-u.u ≡ c.args.day.n = omega arith in
    begun _ _ _ _ c.args.day.wide _ _ (filled _ _ _ _ (omega arith) c.requires (c.fill.ensures.after (λ y k. k) ∙ ap (λ (k : ℕ). replicate k no_way) (search (rules, places)))) (rw e at c.loop-u.invariant)

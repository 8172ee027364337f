-- `extend` meets its contract. Assumes nothing.
use mathlib.Core.Path.{◌≡◌, refl, ap, ◌∙◌}
use Prim.Native.Nat.{ℕ, ◌+◌, ◌*◌}
use native.Mathlib.Omega.{arith}
use Rattle.problem.specs.Arcs.{at}
use Rattle.distances.specs.Numbers.{shift}
use Rattle.distances.proofs.Tables.{extending-all, extending-more, clear-own, clear-through, row_in}
use Rattle.distances.proofs.Meaning.{extended-holds}
use Rattle.distances.proofs.extend.Goals as goal

pub lower_row-requires : goal.lower_row-requires
lower_row-requires c =
    let u = c.loop-u.u in (
      omega (arith, row_in _ u c.args.day.w c.args.day.n refl (omega arith)),
      omega (arith, row_in _ u c.args.day.w c.args.day.n refl (omega arith)),
      omega (arith, row_in _ c.args.fact.x c.args.day.w c.args.day.n refl (omega arith)),
      c.shift_of-t.ensures.1,
      clear-own _ _ _ _ _ _ _ _ c.args.day.wide c.requires.2 c.requires.3 c.requires.5 u (omega arith),
      clear-through _ _ _ _ _ _ _ _ c.args.day.wide c.requires.2 c.requires.3 c.requires.5 u (omega arith),
    )

pub loop-u-preserved : goal.loop-u-preserved
loop-u-preserved c =
    let start : at c.loop-u.s c.place.result ≡ at c.args.s.now (c.args.day.base + (c.loop-u.u * c.args.day.w + c.args.fact.y)) =
    rw c.place.ensures (c.loop-u.invariant.ahead c.loop-u.u c.args.fact.y (omega arith) (omega arith) c.requires.3) in
    extending-more _ _ _ _ _ _ _ _ c.args.day.wide c.requires.2 c.requires.3 c.requires.5 c.loop-u.s _ c.loop-u.u _ (omega arith) c.loop-u.invariant
    (c.shift_of-t.ensures.0 ∙ ap (λ (p : ℕ). shift p c.args.fact.b) start) c.lower_row.ensures

pub returns-clause-day : goal.returns-clause-day
returns-clause-day c =
    let e : c.loop-u.u ≡ c.args.day.n = omega arith in
    let done = extending-all _ _ _ _ _ _ _ _ _ (rw e at c.loop-u.invariant) in
    λ fs a h k ok. extended-holds c.args.s.now c.args.day.base c.args.day.w c.args.day.n c.args.fact.x c.args.fact.y c.args.fact.b a h c.requires.2 c.requires.3 c.args.fact.bounded _ c.args.to done fs k ok c.requires.4

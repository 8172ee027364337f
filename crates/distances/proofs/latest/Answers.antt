-- `latest` meets its contract. Assumes nothing.
use native.Mathlib.Omega.{arith}
use lib.ListN.{length-set}
use Rattle.distances.specs.Numbers.{minutes_of, middle}
use Prim.Native.Nat.{ℕ}
use Rattle.laws.proofs.Lists.{front-more}
use Rattle.distances.proofs.Rows.{small-more}
use Rattle.distances.proofs.Minutes.{minutes-least, minutes-small}
use Rattle.distances.proofs.latest.Goals as goal

pub loop-v-preserved : goal.loop-v-preserved
loop-v-preserved c =
    let inv = c.loop-v.invariant in
    let day = c.args.day in (
      simp length-set inv.0,
      front-more 0 (λ (k : ℕ). minutes_of c.args.s.now day.base day.w k day.n) c.loop-v.t c.loop-v.v c.latest_of.result inv.1 (omega arith) c.latest_of.ensures,
      small-more middle c.loop-v.t c.loop-v.v c.latest_of.result inv.2 (omega arith)
          (omega (arith, c.latest_of.ensures, minutes-small c.args.s.now day.base day.w c.loop-v.v day.n)),
    )

pub returns-clause-times : goal.returns-clause-times
returns-clause-times c =
    λ fs day. minutes-least c.args.s.now c.args.day.base c.args.day.w c.args.day.n fs day c.loop-v.t (omega arith) (λ v m. c.loop-v.invariant.1 v (omega arith))

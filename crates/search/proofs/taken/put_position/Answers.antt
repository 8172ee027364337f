-- `search::taken::put_position` meets its contract: what is still to be taken, put before what is held, stays the same. Assumes nothing.
use mathlib.Core.Path.{◌≡◌, sym, ap, ◌∙◌}
use Prim.Native.Nat.{ℕ, ◌+◌, ◌-◌}
use native.Mathlib.Omega.{arith}
use Rattle.problem.specs.Arcs.{at}
use Rattle.held.specs.Held.{held}
use Rattle.search.specs.Standing.{takes}
use Rattle.search.proofs.Numbers.{takes_step, takes-last}
use Rattle.search.proofs.taken.put_position.Goals as goal

pub loop-j-preserved : goal.loop-j-preserved
loop-j-preserved c =
    let l = c.loop-j in
    record {
      same = ap (takes _ _) c.put.ensures.0 ∙ sym (takes_step (held l.f) l.j _ c.loop-j-test.true) ∙ l.invariant.same;
      room = omega (arith, c.put.ensures.1);
    }

pub returns : goal.returns
returns c =
    let i = c.loop-j.invariant in
    let done : at c.args.p.now.starts c.args.k + c.args.pick ≡ c.loop-j.j = omega (arith, c.loop-j.auto.j-end (omega arith)) in (
      c.put-2.ensures.0
          ∙ sym (takes-last (held c.loop-j.f) c.loop-j.j _ done)
          ∙ i.same
          ∙ ap (λ (d : ℕ). takes (at c.args.p.now.starts c.args.k) d (held c.args.f.now)) (let e : at c.args.p.now.starts c.args.k + c.args.pick - at c.args.p.now.starts c.args.k ≡ c.args.pick = omega arith in e),
      omega (arith, c.put-2.ensures.1),
    )

-- `lamps::forced_facts` meets its contract: after clauses k on, the buffer holds their forced alternatives. Assumes nothing.
use mathlib.Core.Path.{◌≡◌, sym, ap, ◌∙◌}
use mathlib.Core.List.{List, ◌∷◌, map}
use Prim.Native.Nat.{◌+◌, ◌-◌, ◌<◌, ◌≤◌}
use native.Mathlib.Omega.{arith}
use lib.ListN.{length-map}
use Rattle.meaning.specs.Problem.{Alternative}
use Rattle.problem.specs.declared.Edge.{Edge}
use Rattle.problem.specs.Arcs.{at, arc}
use Rattle.problem.specs.Laid.{arcs}
use Rattle.problem.proofs.Knowing.{known-none, known_more}
use Rattle.lamps.proofs.Forced.{forced-none, forced-all, forced-taken, forced-passed}
use Rattle.lamps.proofs.forced_facts.Goals as goal

pub loop-k-init : goal.loop-k-init
loop-k-init c =
    let p = c.args.p.now in
    let none = c.none-f.ensures.0 in
    record {
      is = ap (map (arc (arcs p))) none ∙ sym (forced-none p p.m);
      known = rw none (known-none (arcs p) p.n);
      room = omega (arith, c.none-f.ensures.1);
    }

pub put-requires : goal.put-requires
put-requires c = omega (arith, c.loop-k.invariant.room, c.args.p.now.laid.few)

pub loop-k-preserved-then-p-k-eq1 : goal.loop-k-preserved-then-p-k-eq1
loop-k-preserved-then-p-k-eq1 c =
    let p = c.args.p.now in
    let k = c.loop-k.k in
    let i = c.loop-k.invariant in
    let some : 0 < k = omega arith in
    let first = c.put.ensures.0 in
    let one = c.if-p-k-eq1.true in
    let j = at p.starts (k - 1) in
    let end : at p.starts (k - 1 + 1) ≤ at p.starts p.m = p.laid.ends (k - 1 + 1) (omega arith) in
    record {
      is = ap (map (arc (arcs p))) first ∙ ap (λ (fs : List Alternative). arc (arcs p) j ∷ fs) i.is ∙ forced-taken p k some (omega arith) one;
      known = rw first (known_more (arcs p) p.n j _ (p.laid.alternative j (omega arith)) i.known);
      room = omega (arith, c.put.ensures.1, i.room);
    }

pub loop-k-preserved : goal.loop-k-preserved
loop-k-preserved c =
    let k = c.loop-k.k in
    let i = c.loop-k.invariant in
    let p = c.args.p.now in
    let some : 0 < k = omega arith in
    let other : at p.starts (k - 1 + 1) - at p.starts (k - 1) ≡ 1 → ⊥ = λ one. omega arith in
    record { is = i.is ∙ forced-passed p k some (omega arith) other; known = i.known; room = omega (arith, i.room) }

pub returns : goal.returns
returns c =
    let i = c.loop-k.invariant in
    let p = c.args.p.now in (
      record {
        free = omega (arith, p.laid.few, i.room);
        within = record { known = i.known; few = omega (arith, p.laid.full, length-map p.arcs (λ (e : Edge). e.x)) };
      },
      i.is ∙ forced-all p c.loop-k.k (omega arith),
    )

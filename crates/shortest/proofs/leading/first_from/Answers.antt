-- `first_from` leads a front on: after i turns it has the i numbers of a front that can still be closed, and no closed row comes before it. Assumes nothing.
use Rattle.std.proofs.Common.{◌≡◌, ℕ, ◌-◌, ◌≤◌, ◌<◌, List, [], Option, Some, get_or, refl, sym, ◌∙◌, arith}
use Rattle.meaning.specs.Limits.{most_events}
use Rattle.problem.specs.declared.Edge.{Edge}
use Rattle.problem.specs.Arcs.{net, Arc}
use Rattle.problem.proofs.Knowing.{head-is, bound-is}
use Rattle.facts.specs.Tests.{Within}
use Rattle.shortest.specs.Heights.{Lifts}
use Rattle.shortest.specs.Leading.{Picks}
use Rattle.shortest.proofs.Reaching.{kept-within}
use Rattle.shortest.proofs.Targets.{closes-small}
use Rattle.shortest.proofs.Fronts.{Front, front-start, front-small, front-end, front-some, front-arc, front-more}
use Rattle.shortest.proofs.leading.first_from.Goals as goal

-- the arc of a turn
turn-arc : (l : List Edge) {L out : List ℕ} {tab : List (List ℕ)} {t size u need i left j k : ℕ} → Within (net l) L most_events × (t < most_events) × (size ≤ most_events) × Lifts (net l) L t size tab → Front (net l) L t size out u need i → i < size → left ≡ size - i - 1 → (pick : Option ℕ) → Picks (net l) L (get_or tab left []) u need pick → pick ≡ Some j → k ≡ j → Arc (net l) most_events k
turn-arc l {L} {out} {tab} {t} {size} {u} {need} {i} {left} {j} {k} r f h e pick p s q =
    rw q (front-arc (net l) L tab t size r.0 (kept-within l L most_events r.0) r.1 r.2 r.3 out u need i f left h e j (rw s at p))

pub loop-i-init : goal.loop-i-init
loop-i-init c =
    front-start _ _ _ _ _ c.requires.0 (kept-within _ _ most_events c.requires.0) c.requires.1 c.requires.2 c.requires.3 _ refl

pub next_arc-requires : goal.next_arc-requires
next_arc-requires c =
    let l = c.loop-i in
    (c.requires.0, closes-small _ _ _ c.args.size _ (kept-within _ _ most_events c.requires.0) c.requires.1 c.requires.3 c.requires.2 _ (omega arith), front-small _ _ _ _ c.args.size c.requires.0 (kept-within _ _ most_events c.requires.0) c.requires.1 c.requires.2 c.requires.3 l.out l.u l.need l.i l.invariant)

pub unwrap-j-requires : goal.unwrap-j-requires
unwrap-j-requires c =
    let l = c.loop-i in
    front-some _ _ _ _ c.args.size c.requires.0 (kept-within _ _ most_events c.requires.0) c.requires.1 c.requires.2 c.requires.3 l.out l.u l.need l.i l.invariant _ (omega arith) refl _ c.next_arc.ensures

pub overflow_add-need : goal.overflow_add-need
overflow_add-need c =
    let l = c.loop-i in
    omega (arith, bound-is c.args.arcs.now c.from.result, (turn-arc c.args.arcs.now c.requires l.invariant (omega arith) refl _ c.next_arc.ensures c.unwrap-j.ensures c.from.ensures).small, front-small _ _ _ _ c.args.size c.requires.0 (kept-within _ _ most_events c.requires.0) c.requires.1 c.requires.2 c.requires.3 l.out l.u l.need l.i l.invariant)

pub loop-i-preserved : goal.loop-i-preserved
loop-i-preserved c =
    let l = c.loop-i in
    rw (bound-is c.args.arcs.now c.from.result) at (front-more _ _ _ _ c.args.size c.requires.0 (kept-within _ _ most_events c.requires.0) c.requires.1 c.requires.2 c.requires.3 l.out l.u l.need l.i l.invariant _ (omega arith) refl _ (rw c.unwrap-j.ensures at c.next_arc.ensures) c.from.result c.from-u.result c.from.ensures (c.from-u.ensures ∙ sym (head-is c.args.arcs.now c.from.result)))

pub returns : goal.returns
returns c =
    let l = c.loop-i in
    front-end _ _ _ _ c.args.size c.requires.0 (kept-within _ _ most_events c.requires.0) c.requires.1 c.requires.2 c.requires.3 l.out l.u l.need l.i l.invariant (omega arith)

-- `readers::is_cycle` meets its contract: the walk from the next number on closes where the whole one does. Assumes nothing.
use mathlib.Core.Path.{◌≡◌, sym, ◌∙◌}
use mathlib.Core.Bool.{Bool, true}
use mathlib.Core.List.{List}
use Prim.Native.Nat.{ℕ}
use native.Mathlib.Omega.{arith}
use borrow.Author.Rules.{rules}
use borrow.Author.Tests.{ne_eqb}
use lib.ListN.{length}
use Rattle.problem.specs.declared.Problem.{Problem}
use Rattle.problem.specs.Arcs.{Arc, Known}
use Rattle.problem.specs.Laid.{arcs}
use Rattle.problem.proofs.Knowing.{head-is, tail-is, bound-is, in-edges}
use Rattle.readers.proofs.Walking.{is_in, known-arc, loops-on, loops-none, loops-foreign, on-foreign, on-apart, on-more, on-open, on-closed}
use Rattle.readers.proofs.is_cycle.Goals as goal

-- a number that is one of the facts is that of an arc
arc-here : (p : Problem) {L : List ℕ} {b j : ℕ} {r : Bool} → Known (arcs p) p.n L → r ≡ is_in L b → r ≡ true → j ≡ b → Arc (arcs p) p.n j
arc-here p {L} {b} k e t q = rw q (known-arc p L b k (sym e ∙ t))

pub returns-in_default : goal.returns-in_default
returns-in_default c = sym (loops-none (arcs c.args.p.now) c.args.facts.now _ (omega (arith, c.in_default.ensures.item.3)))

pub returns-then-not-contains : goal.returns-then-not-contains
returns-then-not-contains c =
    let i = c.in-Some.ensures.item.3 in
    sym (loops-foreign (arcs c.args.p.now) c.args.facts.now _ c.in-Some.first.now i.0 (i.1 0) (sym c.contains.ensures.value ∙ c.if-not-contains.true))

pub loop-b-init : goal.loop-b-init
loop-b-init c =
    let i = c.in-Some.ensures.item.3 in
    (omega arith, rw (← tail-is c.args.p.now.arcs c.from.result) (loops-on (arcs c.args.p.now) c.args.facts.now _ _ i.0 (c.from.ensures ∙ i.1 0)))

pub returns-then-not-contains-2 : goal.returns-then-not-contains-2
returns-then-not-contains-2 c =
    sym (c.loop-b.invariant.1 ∙ on-foreign (arcs c.args.p.now) c.args.facts.now _ _ _ _ _ c.loop-b-test.true (sym c.contains-in-loop-b.ensures.value ∙ c.if-not-contains-2.true))

pub bounds-p-from-in-loop-b : goal.bounds-p-from-in-loop-b
bounds-p-from-in-loop-b c =
    let h : length c.args.p.now.arcs ≡ 128 = search rules in
    omega (arith, in-edges c.args.p.now.arcs _ (arc-here c.args.p.now c.requires.0 c.contains-in-loop-b.ensures.value c.if-not-contains-2.false c.from-in-loop-b.ensures))

pub returns-then-arc-here : goal.returns-then-arc-here
returns-then-arc-here c =
    sym (c.loop-b.invariant.1 ∙ on-apart (arcs c.args.p.now) c.args.facts.now _ _ _ _ _ c.loop-b-test.true _ c.from-in-loop-b.ensures (λ e. c.if-arc-here.true (sym (tail-is c.args.p.now.arcs _) ∙ e)))

pub overflow_add-sum : goal.overflow_add-sum
overflow_add-sum c =
    let a = arc-here c.args.p.now c.requires.0 c.contains-in-loop-b.ensures.value c.if-not-contains-2.false c.from-in-loop-b.ensures in
    rw (← bound-is c.args.p.now.arcs c.from-in-loop-b.result) (omega (arith, a.small, c.loop-b.invariant.0, c.requires.1))

pub loop-b-preserved : goal.loop-b-preserved
loop-b-preserved c =
    let a = arc-here c.args.p.now c.requires.0 c.contains-in-loop-b.ensures.value c.if-not-contains-2.false c.from-in-loop-b.ensures in
    rw (← head-is c.args.p.now.arcs c.from-in-loop-b.result, ← bound-is c.args.p.now.arcs c.from-in-loop-b.result) (
      omega (arith, a.small, c.loop-b.invariant.0),
      c.loop-b.invariant.1 ∙ on-more (arcs c.args.p.now) c.args.facts.now _ _ _ _ _ c.loop-b-test.true _ c.from-in-loop-b.ensures (sym c.contains-in-loop-b.ensures.value ∙ c.if-not-contains-2.false) (tail-is c.args.p.now.arcs _ ∙ c.if-arc-here.false),
    )

pub returns-then-here-start : goal.returns-then-here-start
returns-then-here-start c =
    sym (c.loop-b.invariant.1 ∙ on-closed (arcs c.args.p.now) c.args.facts.now _ _ _ _ _ (omega arith) c.if-here-start.true)

pub returns-else-here-start : goal.returns-else-here-start
returns-else-here-start c =
    ne_eqb _ _ c.if-here-start.false ∙ sym (c.loop-b.invariant.1 ∙ on-open (arcs c.args.p.now) c.args.facts.now _ _ _ _ _ (omega arith) c.if-here-start.false)

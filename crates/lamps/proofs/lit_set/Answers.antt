-- `lamps::lit_set` meets its contract: after j alternatives the set is that of the first j lamps. Assumes nothing.
use mathlib.Core.Path.{◌≡◌, sym, ap, ap₂, ◌∙◌}
use mathlib.Core.List.{List}
use Prim.Native.Nat.{ℕ, ◌<◌}
use native.Mathlib.Omega.{arith}
use Rattle.meaning.specs.Limits.{most_alternatives}
use Rattle.meaning.specs.Problem.{Alternative}
use Rattle.meaning.specs.Lamps.{bits, lamps_of}
use Rattle.problem.specs.Arcs.{at, arcs_from}
use Rattle.problem.specs.Laid.{arcs}
use Rattle.held.specs.Held.{facts_in}
use Rattle.lamps.proofs.Lit.{no-lamps, lit-more, dark-more, lamps-are}
use Rattle.lamps.proofs.lit_set.Goals as goal
use Rattle.lamps.proofs.lit_set.Goals.{then-is_some, else-is_some}

pub loop-j-init : goal.loop-j-init
loop-j-init c = sym (no-lamps (facts_in c.args.p.now c.args.f) (arcs c.args.p.now))

pub loop-j-preserved : goal.loop-j-preserved
loop-j-preserved c =
    let g = arcs c.args.p.now in
    let fs = facts_in c.args.p.now c.args.f in
    let j = c.loop-j.j in
    let i = c.loop-j.invariant in
    let ok = c.is_some.ensures ∙ c.tested_with.ensures.decides in
    let l : j < most_alternatives = omega (arith, c.args.p.now.laid.last) in
    elim c.if-is_some.branch [
      | then-is_some w ↦ w.set-is ∙ lit-more fs g j _ l i (sym w.if-is_some.true ∙ ok)
      | else-is_some w ↦ w.set-is ∙ dark-more fs g j _ i (sym w.if-is_some.false ∙ ok)
    ]

pub returns : goal.returns
returns c =
    let p = c.args.p.now in
    c.loop-j.invariant
    ∙ ap₂ (λ (fs : List Alternative) (n : ℕ). bits (lamps_of fs (arcs_from (arcs p) 0 n))) c.requires.1 (let z : c.loop-j.j ≡ at p.starts p.m = omega arith in z)
    ∙ ap bits (sym (lamps-are p))

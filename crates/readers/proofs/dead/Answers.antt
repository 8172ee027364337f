-- `readers::dead` meets its contract: what remains of the dead clause from alternative j on gives the same. Assumes nothing.
use Rattle.std.proofs.Common.{◌≡◌, ℕ, suc, ◌+◌, ◌<◌, Bool, List, ◌∷◌, map, sym, ap, ◌∙◌, refl, arith}
use Rattle.std.proofs.lemmas.Bool.Decides.{nat_tests}
use Rattle.meaning.specs.Reasons.{cycle_over}
use Rattle.problem.specs.declared.Problem.{Problem}
use Rattle.problem.specs.Arcs.{at, arc}
use Rattle.problem.specs.Laid.{arcs}
use Rattle.readers.specs.declared.facts.Facts.{Facts}
use Rattle.readers.specs.Standing.{held, facts_from}
use Rattle.readers.proofs.Standings.{decided-more}
use Rattle.readers.proofs.Readings.{dead-other, dead-later, cycles-none, cycles-no, cycles-row, cycles-end}
use Rattle.readers.proofs.dead.Goals as goal

-- the alternative, in front of the facts
tested : (p : Problem) (j : ℕ) (f g : Facts) (row : List ℕ) (b t : Bool) → held g ≡ j ∷ held f → b ≡ cycle_over (facts_from p g) row → b ≡ t → cycle_over (arc (arcs p) j ∷ facts_from p f) row ≡ t
tested p j f g row b t e q r = ap (λ L. cycle_over (map (arc (arcs p)) L) row) (sym e) ∙ sym q ∙ r

pub returns-then-not-contains : goal.returns-then-not-contains
returns-then-not-contains c = dead-other c.args.p.now _ _ _ _ (λ l. grind (arith, nat_tests))

pub loop-j-init : goal.loop-j-init
loop-j-init c =
    let y : suc c.args.d ≡ c.args.d + 1 = omega arith in
    dead-later c.args.p.now _ _ _ _ (grind (arith, nat_tests)) (grind (arith, nat_tests)) ∙ rw y refl

pub is_cycle_row-requires : goal.is_cycle_row-requires
is_cycle_row-requires c =
    let later : c.args.d < c.args.p.now.m = grind (arith, nat_tests) in
    let n : c.loop-j.j < at c.args.p.now.starts c.args.p.now.m = omega (arith, c.args.p.now.laid.ends (c.args.d + 1) (omega arith)) in
    let d = decided-more c.args.p.now _ c.loop-j.j c.args.facts c.with.result c.requires.decided c.with.ensures.0 c.with.ensures.1 (c.args.p.now.laid.alternative _ n) in
    d.known

pub returns-in_err-row : goal.returns-in_err-row
returns-in_err-row c = rw c.from_residual.ensures (c.loop-j.invariant ∙ cycles-none _ _ _ _ _ c.loop-j-test.true c.in_err-row.ensures.cases)

pub returns-then-not-is_cycle_row : goal.returns-then-not-is_cycle_row
returns-then-not-is_cycle_row c =
    c.loop-j.invariant ∙ cycles-no _ _ _ _ _ c.loop-j-test.true _ _ c.in_ok-row.ensures.cases.0 (tested c.args.p.now c.loop-j.j c.args.facts c.with.result _ _ _ c.with.ensures.0 c.is_cycle_row.ensures c.if-not-is_cycle_row.true)

pub loop-j-preserved : goal.loop-j-preserved
loop-j-preserved c =
    c.loop-j.invariant ∙ cycles-row _ _ _ _ _ c.loop-j-test.true _ _ c.in_ok-row.ensures.cases.0 (tested c.args.p.now c.loop-j.j c.args.facts c.with.result _ _ _ c.with.ensures.0 c.is_cycle_row.ensures c.if-not-is_cycle_row.false)

pub returns : goal.returns
returns c = c.loop-j.invariant ∙ cycles-end _ _ _ _ _ c.loop-j-test.false

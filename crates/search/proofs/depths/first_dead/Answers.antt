-- `depths::first_dead` meets its contract. Assumes nothing.
use mathlib.Core.Path.{◌≡◌, sym, ◌∙◌}
use mathlib.Core.Bool.{true≢false}
use mathlib.Core.Logic.{by_cases}
use Prim.Native.Nat.{◌+◌, ◌-◌}
use native.Mathlib.Decide.{ℕ_discrete}
use native.Mathlib.Omega.{arith}
use Rattle.search.proofs.Dead.{first-none, first-some}
use Rattle.search.proofs.depths.first_dead.Goals as goal

pub loop-d-init : goal.loop-d-init
loop-d-init g c = λ fs day i l m. absurd (omega arith)

pub returns-then-dead_clause : goal.returns-then-dead_clause
returns-then-dead_clause g c = λ fs day.
    let p = c.args.p.now in
    let k = c.args.k in
    let d = c.loop-d.d in
    let e : k + (d - k) ≡ d = omega arith in
    record {
      some-dead = (omega arith, omega arith, first-some p fs k (p.m - k) (d - k) (omega arith) (rw e (sym c.if-dead_clause.true ∙ c.dead_clause.ensures fs day)) (λ i a b. c.loop-d.invariant fs day i a (omega arith)));
      none-dead = λ n. absurd (true≢false n);
    }

pub loop-d-preserved : goal.loop-d-preserved
loop-d-preserved g c = λ fs day i l m.
    by_cases (ℕ_discrete i c.loop-d.d)
    (λ e. rw e (sym c.if-dead_clause.false ∙ c.dead_clause.ensures fs day))
    (λ n. c.loop-d.invariant fs day i l (omega arith))

pub returns : goal.returns
returns g c = λ fs day.
    let p = c.args.p.now in
    record { some-dead = tt; none-dead = λ _. first-none p fs c.args.k (p.m - c.args.k) (λ i l m. c.loop-d.invariant fs day i l (omega arith)) }

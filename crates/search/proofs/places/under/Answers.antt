-- `search::places::under` meets its contract: the product of the clauses from i on. Assumes nothing.
use mathlib.Core.Path.{◌≡◌, sym, ap, ◌∙◌}
use Prim.Native.Nat.{ℕ, ◌-◌, ◌*◌}
use native.Mathlib.Omega.{arith}
use Rattle.meaning.specs.Plain.{product}
use Rattle.problem.specs.Laid.{clauses_from}
use Rattle.search.proofs.Ranks.{product_small, product-grown, product-end}
use Rattle.search.proofs.places.under.Goals as goal

pub loop-i-init : goal.loop-i-init
loop-i-init c = record { whole = sym (product-end c.args.p.now); low = omega arith }

pub overflow_mul-all : goal.overflow_mul-all
overflow_mul-all c =
    let i = c.loop-i.i in
    let grown : c.size-all.result * c.loop-i.all ≡ product (clauses_from c.args.p.now (i - 1) (c.args.p.now.m - (i - 1))) = product-grown c.args.p.now i _ (omega arith) (omega arith) c.loop-i.invariant.whole _ c.size-all.ensures in
    omega (arith, product_small c.args.p.now (i - 1) (omega arith))

pub loop-i-preserved : goal.loop-i-preserved
loop-i-preserved c =
    record { whole = product-grown c.args.p.now c.loop-i.i _ (omega arith) (omega arith) c.loop-i.invariant.whole _ c.size-all.ensures; low = omega arith }

pub returns : goal.returns
returns c =
    let whole : c.loop-i.i ≡ c.args.k = omega arith in
    c.loop-i.invariant.whole ∙ ap (λ (d : ℕ). product (clauses_from c.args.p.now d (c.args.p.now.m - d))) whole

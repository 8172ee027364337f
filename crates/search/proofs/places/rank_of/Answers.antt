-- `search::places::rank_of` meets its contract: the rank of the positions from i on among the clauses from i on, and their product. Assumes nothing.
use mathlib.Core.Path.{◌≡◌, sym}
use mathlib.Core.List.{List}
use Prim.Native.Nat.{ℕ, ◌+◌, ◌-◌, ◌*◌, ◌^◌, ◌<◌, ◌≤◌}
use native.Mathlib.Omega.{arith}
use lib.ListN.{length, take, drop}
use borrow.Author.Rules.{rules}
use Rattle.meaning.specs.Plain.{product, rank}
use Rattle.problem.specs.declared.Problem.{Problem}
use Rattle.problem.specs.Arcs.{at}
use Rattle.problem.specs.Laid.{clauses_from}
use Rattle.search.specs.Standing.{Inside}
use Rattle.search.proofs.Numbers.{picks-enough}
use Rattle.search.proofs.Ranks.{product_small, product-grown, rank-grown, rank-small, rank-end}
use Rattle.search.proofs.places.rank_of.Goals as goal

-- the rank with the pick before position i counted too, which is small enough
counted : {p : Problem} {picks : List ℕ} {k i all before pick : ℕ} → Inside p picks k → length picks ≡ 32 → 0 < i → all ≡ product (clauses_from p i (p.m - i)) → before ≡ rank (clauses_from p i (p.m - i)) (drop i (take k picks)) → i ≤ k → pick ≡ at picks (i - 1) → (pick * all + before ≡ rank (clauses_from p (i - 1) (p.m - (i - 1))) (drop (i - 1) (take k picks))) × (pick * all + before ≤ 2 ^ 63)
counted {p} {picks} {k} {i} {all} {before} {pick} inside long some is ranked below e =
    let enough = picks-enough inside long in
    let grown : pick * all + before ≡ rank (clauses_from p (i - 1) (p.m - (i - 1))) (drop (i - 1) (take k picks)) = rank-grown p i all some (omega (arith, inside.few)) is picks k pick before below enough e ranked in
    (grown, omega (arith, rank-small p picks k (i - 1) inside enough (omega arith)))

pub loop-i-init : goal.loop-i-init
loop-i-init c = record { whole = c.under-all.ensures; ranked = sym (rank-end _ c.args.s.picks c.args.s.k) }

pub overflow_mul-before : goal.overflow_mul-before
overflow_mul-before c =
    let l = c.loop-i in
    omega (arith, (counted c.requires (search rules) c.loop-i-test.true l.invariant.whole l.invariant.ranked (omega arith) c.from.ensures).1)

pub overflow_add-before : goal.overflow_add-before
overflow_add-before c =
    let l = c.loop-i in
    omega (arith, (counted c.requires (search rules) c.loop-i-test.true l.invariant.whole l.invariant.ranked (omega arith) c.from.ensures).1)

pub overflow_mul-all : goal.overflow_mul-all
overflow_mul-all c =
    let l = c.loop-i in
    let grown : c.size-all.result * l.all ≡ product (clauses_from c.args.p.now (l.i - 1) (c.args.p.now.m - (l.i - 1))) = product-grown c.args.p.now l.i l.all (omega arith) (omega (arith, c.requires.few)) l.invariant.whole _ c.size-all.ensures in
    omega (arith, product_small c.args.p.now (l.i - 1) (omega (arith, c.requires.few)))

pub loop-i-preserved : goal.loop-i-preserved
loop-i-preserved c =
    let l = c.loop-i in
    record {
      whole = product-grown c.args.p.now l.i l.all (omega arith) (omega (arith, c.requires.few)) l.invariant.whole _ c.size-all.ensures;
      ranked = (counted c.requires (search rules) c.loop-i-test.true l.invariant.whole l.invariant.ranked (omega arith) c.from.ensures).0;
    }

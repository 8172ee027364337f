-- `lamps::counts_of` meets its contract: after k clauses the first k counts are theirs and the rest is 0. Assumes nothing.
use mathlib.Core.Path.{◌≡◌, ap, ap₂, ◌∙◌}
use mathlib.Core.List.{List, ◌++◌, map}
use Prim.Native.Nat.{ℕ, ◌-◌, ◌<◌}
use native.Mathlib.Omega.{arith}
use native.Mathlib.Numerals.{add-one}
use lib.Bits.{bit_and}
use lib.Count
use lib.Seq.{take_all}
use lib.ListN.{replicate}
use Rattle.meaning.specs.Limits.{most_clauses}
use Rattle.meaning.specs.Lamps.{ones, lit}
use Rattle.problem.specs.Arcs.{at}
use Rattle.problem.specs.Laid.{clauses_in}
use Rattle.laws.proofs.Lists.{drop-replicate}
use Rattle.lent.proofs.Writing.{write-more}
use Rattle.lamps.specs.Masks.{mask}
use Rattle.lamps.proofs.Lit.{count-is-clause, counts-length}
use Rattle.lamps.proofs.counts_of.Goals as goal

pub loop-k-preserved : goal.loop-k-preserved
loop-k-preserved c =
    let p = c.args.p.now in
    let k = c.loop-k.k in
    let l : k < p.m = omega arith in
    let count =
    ap₂ (λ (n m : ℕ). Count.ones (bit_and n m)) c.requires (c.mask_of-mask.ensures ∙ ap (λ (e : ℕ). mask (at p.starts k) (at p.starts e)) (add-one k))
    ∙ count-is-clause p k l
    in
    write-more k _ 0 _ (map ones (lit (clauses_in p))) (replicate most_clauses 0) c.loop-k.invariant (omega (arith, counts-length p)) (omega (arith, p.laid.few)) count

pub returns : goal.returns
returns c =
    let p = c.args.p.now in
    let whole : c.loop-k.k ≡ p.m = omega arith in
    c.loop-k.invariant
    ∙ ap₂ (λ (l m : List ℕ). l ++ m)
    (take_all c.loop-k.k (map ones (lit (clauses_in p))) (omega (arith, counts-length p)))
    (drop-replicate c.loop-k.k most_clauses 0 ∙ ap (λ (n : ℕ). replicate (most_clauses - n) 0) whole)

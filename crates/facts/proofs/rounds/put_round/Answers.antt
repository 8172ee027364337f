-- `put_round` is a round: after i turns the row after row k is the round's first i facts from row k. Assumes nothing.
use Rattle.std.proofs.Common.{◌≡◌, ℕ, ◌∙◌, true, false, not, eqb, ap, refl, arith, List}
use borrow.Author.Tests.{eq-eqb, ne_eqb}
use Rattle.problem.specs.Arcs.{at}
use Rattle.facts.specs.Rounds.{upto}
use Rattle.facts.proofs.Tables.{row-still, row-raised}
use Rattle.facts.proofs.rounds.put_round.Goals as goal
use Rattle.facts.proofs.rounds.put_round.Goals.{then-this-ne0, else-this-ne0}

pub loop-fact-init : goal.loop-fact-init
unfolding upto
loop-fact-init g c = refl

pub overflow_add-t : goal.overflow_add-t
overflow_add-t g c =
    let still = row-still (not (eqb g.row.TURNED 0)) c.args.arcs.now c.args.facts.now c.args.t.now c.loop-fact.t c.args.k c.loop-fact.fact-index c.loop-fact.invariant in
    omega (arith, ap (λ (s : List ℕ). at s c.from-y.result) still, c.requires.2 c.from-y.result)

pub loop-fact-preserved : goal.loop-fact-preserved
loop-fact-preserved g c =
    elim c.if-this-ne0.branch [
      | then-this-ne0 w ↦
          let t : not (eqb g.row.TURNED 0) ≡ true = ap not (ne_eqb _ _ w.if-this-ne0.true) in
          row-raised (not (eqb g.row.TURNED 0)) c.args.arcs.now _ _ _ _ _ c.loop-fact.invariant c.requires.1 c.from.result c.from-x.result c.from-y.result _ c.from.ensures (rw t (c.from-x.ensures ∙ ap (λ (q : ℕ × ℕ). q.0) w.x-is)) (rw t (c.from-y.ensures ∙ ap (λ (q : ℕ × ℕ). q.1) w.x-is)) c.raised.ensures
      | else-this-ne0 w ↦
          let t : not (eqb g.row.TURNED 0) ≡ false = ap not (eq-eqb _ _ w.if-this-ne0.false) in
          row-raised (not (eqb g.row.TURNED 0)) c.args.arcs.now _ _ _ _ _ c.loop-fact.invariant c.requires.1 c.from.result c.from-x.result c.from-y.result _ c.from.ensures (rw t (c.from-x.ensures ∙ ap (λ (q : ℕ × ℕ). q.0) w.x-is)) (rw t (c.from-y.ensures ∙ ap (λ (q : ℕ × ℕ). q.1) w.x-is)) c.raised.ensures
    ]

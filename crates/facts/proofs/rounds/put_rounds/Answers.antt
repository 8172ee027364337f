-- `put_rounds` makes the rounds: after k turns the table's rows up to k are those of k rounds, each of these changed a time, and the rows after k are as they were. Assumes nothing.
use Rattle.std.proofs.Common.{List, ℕ, [], ◌∙◌, arith, refl, length-set}
use Rattle.meaning.specs.Limits.{most_events}
use Rattle.facts.specs.Tests.{farthest}
use Rattle.facts.proofs.Tables.{rounds-first, rounds-more, last-row, rounds-small, stays-stored, stays-since, moving-more, ended-still, some-changed, none-changed}
use Rattle.facts.proofs.Deciding.{within_more}
use lib.Seq.{get_or-set_same}
use Rattle.facts.proofs.rounds.put_rounds.Goals as goal

pub loop-k-init : goal.loop-k-init
loop-k-init c =
    record { made = rounds-first _ _ _ _ refl _ (omega arith); moving = record { each = λ i h. absurd (omega arith) }; stays = record { same = λ i h. refl }; long = refl }

pub put_round-requires : goal.put_round-requires
put_round-requires c =
    let l = c.loop-k in
    let b = within_more _ c.args.facts.now c.args.n most_events c.requires.2 c.requires.0 in
    let e = get_or-set_same c.args.t.now 0 c.args.start [] (omega arith) in
    (b, omega (arith, length-set {A = List ℕ}, l.invariant.long), rounds-small _ _ c.args.start l.t most_events farthest b (omega arith) c.requires.3 l.k l.k (rw e at l.invariant.made) (omega arith) (omega arith))

pub returns-then-is_none : goal.returns-then-is_none
returns-then-is_none c =
    let l = c.loop-k in
    let e = get_or-set_same c.args.t.now 0 c.args.start [] (omega arith) in
    let made = rounds-more _ _ c.args.start l.t l.k (rw e at l.invariant.made) (omega (arith, length-set {A = List ℕ}, l.invariant.long)) c.put_round.new.t c.put_round.ensures in
    let same = none-changed _ _ c.args.start c.args.n l.k _ _ (made.row l.k (omega arith)) (last-row _ _ c.args.start _ l.k made) c.rising.result c.rising.ensures c.if-is_none.ensures c.requires.0 (omega arith) in
    (ended-still _ _ c.args.start _ c.args.n l.k (omega arith) same made (rw e at l.invariant.moving), stays-stored _ l.t c.put_round.new.t _ l.k _ (omega arith) c.put_round.ensures (stays-since c.args.t.now l.t c.args.start 0 l.k (omega arith) l.invariant.stays))

pub loop-k-preserved : goal.loop-k-preserved
loop-k-preserved c =
    let l = c.loop-k in
    let made = rounds-more _ _ _ l.t l.k l.invariant.made (omega (arith, length-set {A = List ℕ}, l.invariant.long)) c.put_round.new.t c.put_round.ensures in
    record {
      made = made;
      moving = moving-more _ _ _ _ l.invariant.moving (some-changed _ _ _ c.args.n l.k _ _ (made.row l.k (omega arith)) (last-row _ _ _ _ l.k made) c.rising.result c.rising.ensures c.if-is_none.ensures);
      stays = stays-stored _ l.t c.put_round.new.t _ l.k _ (omega arith) c.put_round.ensures l.invariant.stays;
      long = c.put_round.auto.t ∙ l.invariant.long;
    }

-- `rounds_to` makes the rounds to a target: after r turns the table's rows up to r are those of r rounds, and after none of these the target stands above its start. Assumes nothing.
use mathlib.Core.Bool.{true≢false}
use Rattle.std.proofs.Common.{ℕ, List, [], ◌∙◌, ◌+◌, ap, arith, below_more, length-set}
use lib.Seq.{get_or-set_same}
use Rattle.meaning.specs.Limits.{most_events}
use Rattle.problem.specs.Arcs.{at}
use Rattle.facts.proofs.Tables.{rounds-first, rounds-more}
use Rattle.shortest.proofs.Reaching.{kept-within}
use Rattle.shortest.proofs.Targets.{start-below, row_under}
use Rattle.shortest.proofs.heights.rounds_to.Goals as goal

pub loop-r-init : goal.loop-r-init
loop-r-init c =
    record {
      made = rounds-first _ _ _ _ (get_or-set_same c.args.tab.now 0 _ [] (omega arith) ∙ c.start_at.ensures) _ (omega arith);
      low = start-below _ _ c.args.t c.requires.1;
      long = omega (arith, length-set {A = List ℕ}, c.well_formed);
    }

pub put_round-requires : goal.put_round-requires
put_round-requires c =
    let l = c.loop-r in
    let w = kept-within _ c.args.facts.now most_events c.requires.0 in
    (c.requires.0, omega (arith, l.invariant.long), row_under _ _ c.args.t l.tab l.r l.invariant.made w c.requires.1 (omega arith))

pub returns-then-tab-r-gt-HIGHEST : goal.returns-then-tab-r-gt-HIGHEST
returns-then-tab-r-gt-HIGHEST c =
    let l = c.loop-r in
    let made = rounds-more _ _ _ l.tab l.r l.invariant.made (omega (arith, l.invariant.long)) c.put_round.new.t c.put_round.ensures in
    record {
      some = (
        omega arith,
        record {
          below = l.invariant.low;
          above = omega (arith, ap (λ (s : List ℕ). at s c.args.t) (made.row (l.r + 1) (omega arith)));
          rounds = made;
        },
      );
      none = λ e. absurd (true≢false e);
    }

pub loop-r-preserved : goal.loop-r-preserved
loop-r-preserved c =
    let l = c.loop-r in
    let made = rounds-more _ _ _ l.tab l.r l.invariant.made (omega (arith, l.invariant.long)) c.put_round.new.t c.put_round.ensures in
    record {
      made = made;
      low = below_more _ _ l.invariant.low (omega (arith, ap (λ (s : List ℕ). at s c.args.t) (made.row (l.r + 1) (omega arith))));
      long = omega (arith, c.put_round.auto.t, l.invariant.long);
    }

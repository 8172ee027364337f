-- `read_list` meets its contract: reading what remains into what is left gives the same memory and place. Assumes nothing.
use mathlib.Core.Path.{sym, ◌∙◌}
use native.Mathlib.Omega.{arith}
use Rattle.std.proofs.lemmas.List.{set-get_or}
use Rattle.dialogue.specs.Words.{word_at, after_word}
use Rattle.dialogue.proofs.Placing.{placed-some, placed_none}
use Rattle.dialogue.proofs.Listing.{after-end, list-end, after_none, list-none, after_more, list-more}
use Rattle.dialogue.proofs.reading.read_list.Goals as goal

pub returns-in_err-value-clause-value : goal.returns-in_err-value-clause-value
returns-in_err-value-clause-value g c =
    let l = c.loop-number in
    let a = c.args.line.now in
    let read = g.T.Spelled.spelled in
    let e = placed_none (after_word a l.to) (read (word_at a l.to)) c.in_err-value.ensures in
    c.from_residual.ensures ∙ sym (l.invariant.value ∙ after_none read a l.to l.number-items l.number-index c.number-item.result (omega arith) e)

pub returns-in_err-value-clause-after : goal.returns-in_err-value-clause-after
returns-in_err-value-clause-after g c =
    let l = c.loop-number in
    let a = c.args.line.now in
    let read = g.T.Spelled.spelled in
    let e = placed_none (after_word a l.to) (read (word_at a l.to)) c.in_err-value.ensures in
    set-get_or l.number-items l.number-index c.number-item.result ∙ sym (l.invariant.after ∙ list-none read a l.to l.number-items l.number-index c.number-item.result (omega arith) e)

pub loop-number-preserved : goal.loop-number-preserved
loop-number-preserved g c =
    let l = c.loop-number in
    let a = c.args.line.now in
    let read = g.T.Spelled.spelled in
    let e = placed-some (after_word a l.to) (read (word_at a l.to)) _ _ c.in_ok-value.ensures in
    record {
      value = l.invariant.value ∙ after_more read a l.to l.number-items l.number-index c.number-item.result (omega arith) c.in_ok-value.value c.in_ok-value.place e.spelled e.ends;
      after = l.invariant.after ∙ list-more read a l.to l.number-items l.number-index c.number-item.result (omega arith) c.in_ok-value.value c.in_ok-value.place e.spelled e.ends;
    }

pub returns-clause-value : goal.returns-clause-value
returns-clause-value g c =
    let l = c.loop-number in
    sym (l.invariant.value ∙ after-end g.T.Spelled.spelled c.args.line.now l.to l.number-items l.number-index (omega arith))

pub returns-clause-after : goal.returns-clause-after
returns-clause-after g c =
    let l = c.loop-number in
    sym (l.invariant.after ∙ list-end g.T.Spelled.spelled c.args.line.now l.to l.number-items l.number-index (omega arith))

-- `unsigned_of` meets its contract: the digits that remain, begun from the value so far, give the same answer. Assumes nothing.
use mathlib.Core.Path.{◌≡◌, sym, ap, ◌∙◌}
use mathlib.Core.List.{[]}
use native.Mathlib.Omega.{arith}
use lib.ListN.{drop_of_length-le}
use borrow.Author.Tests.{eqb-true}
use Rattle.dialogue.specs.Words.{unsigned_of, digits_from}
use Rattle.dialogue.proofs.Spelling.{number-apart, number-end, number_more, number-over, unsigned-none, unsigned-some}
use Rattle.dialogue.proofs.reading.unsigned_of.Goals as goal

pub returns-then-is_empty : goal.returns-then-is_empty
returns-then-is_empty c = sym (unsigned-none c.args.most c.args.word.now (eqb-true _ _ (sym c.if-is_empty.ensures)))

pub loop-b-init : goal.loop-b-init
loop-b-init c = record { within = omega arith; remains = unsigned-some c.args.most c.args.word.now (grind (arith, c.if-is_empty.ensures)) }

pub returns-then-not-is_ascii_digit : goal.returns-then-not-is_ascii_digit
returns-then-not-is_ascii_digit c =
    let l = c.loop-b in
    let a = c.args in
    sym (l.invariant.remains ∙ number-apart a.most l.value a.word.now l.b-index (omega arith) c.if-not-is_ascii_digit.ensures.cases)

pub returns-then-most-value : goal.returns-then-most-value
returns-then-most-value c =
    let l = c.loop-b in
    let a = c.args in
    sym (l.invariant.remains ∙ number-over a.most l.value a.word.now l.b-index (omega arith) c.if-not-is_ascii_digit.ensures.cases c.if-most-value.true)

pub loop-b-preserved : goal.loop-b-preserved
loop-b-preserved c =
    let l = c.loop-b in
    let a = c.args in
    record {
      within = omega arith;
      remains = l.invariant.remains ∙ number_more a.most l.value a.word.now l.b-index (omega arith) c.if-not-is_ascii_digit.ensures.cases;
    }

pub returns : goal.returns
returns c =
    let l = c.loop-b in
    let a = c.args in
    let e : unsigned_of a.most a.word.now ≡ digits_from a.most l.value [] = l.invariant.remains ∙ ap (digits_from a.most l.value) (drop_of_length-le a.word.now c.loop-b-test.false) in
    sym (e ∙ number-end a.most l.value l.invariant.within)

-- `put_asserts` meets its contract: the asserts that remain are fewer by one after each turn.
use lib.ListN.{get_or}
use native.Mathlib.Omega.{arith}
use Rattle.dialogue.proofs.Puts.{remains_on, remains-none}
use Rattle.meaning.specs.Screen.{clauses_of}
use Rattle.script.proofs.Putting.{next-count, asserts-on, asserts-off}
use Rattle.script.proofs.text.put_asserts.Goals as goal

pub overflow_mul-from : goal.overflow_mul-from
overflow_mul-from c = omega (arith, (next-count _ _ _ _ c.loop-count-test.true c.loop-count.invariant.1.0).within)

pub overflow_mul-end : goal.overflow_mul-end
overflow_mul-end c = omega (arith, (next-count _ _ _ _ c.loop-count-test.true c.loop-count.invariant.1.0).within)

pub offset_bounds-triples-from : goal.offset_bounds-triples-from
offset_bounds-triples-from c = omega (arith, (next-count _ _ _ _ c.loop-count-test.true c.loop-count.invariant.1.0).within)

pub slice_bounds-put_assert-count : goal.slice_bounds-put_assert-count
slice_bounds-put_assert-count c = omega (arith, (next-count _ _ _ _ c.loop-count-test.true c.loop-count.invariant.1.0).up)

pub slice_bounds-put_assert-start : goal.slice_bounds-put_assert-start
slice_bounds-put_assert-start c = omega (arith, (next-count _ _ _ _ c.loop-count-test.true c.loop-count.invariant.1.0).up)

pub slice_bounds-put_assert-end : goal.slice_bounds-put_assert-end
slice_bounds-put_assert-end c = omega (arith, (next-count _ _ _ _ c.loop-count-test.true c.loop-count.invariant.1.0).within)

pub loop-count-preserved : goal.loop-count-preserved
loop-count-preserved c =
    let l = c.loop-count in
    let a = c.args in
    let f = next-count _ _ _ _ c.loop-count-test.true l.invariant.1.0 in
    let ts = a.triples.now in
    let counts = a.counts.now in
    let to = get_or counts l.count-index 0 in
    let on = asserts-on ts counts l.from l.count-index (omega arith) f.up in
    (f.within, (f.rest, remains_on (rw on at l.invariant.1.1) c.put_assert.ensures))

pub returns : goal.returns
unfolding clauses_of
returns c =
    let l = c.loop-count in
    remains-none (rw (asserts-off c.args.triples.now c.args.counts.now l.from l.count-index (omega arith)) at l.invariant.1.1)

-- `readers::is_cycle_row` meets its contract: its numbers, where what follows them is blank. Assumes nothing.
use Rattle.std.proofs.Common.{map, sym, ap, ◌∙◌, arith}
use Rattle.meaning.specs.Reasons.{loops, blank}
use Rattle.problem.specs.Arcs.{arc}
use Rattle.problem.specs.Laid.{arcs}
use Rattle.readers.specs.Standing.{facts_from}
use Rattle.readers.proofs.Marks.{numbers-few, cycle-unfilled, cycle-filled}
use Rattle.readers.proofs.is_cycle_row.Goals as goal

pub split_at-requires : goal.split_at-requires
split_at-requires c = omega (arith, c.row_len.ensures, numbers-few c.args.row.now)

pub returns-then-is_blank : goal.returns-then-is_blank
returns-then-is_blank c =
    let fs = facts_from c.args.p.now c.args.facts in
    let parts = c.split_at.ensures in
    c.is_cycle.ensures
    ∙ ap (λ L. loops (map (arc (arcs c.args.p.now)) L) c.split_at.result.0.now) c.numbers.ensures
    ∙ ap (loops fs) parts.front
    ∙ sym (cycle-filled fs _ _ c.row_len.ensures (ap blank (sym parts.back) ∙ sym c.is_blank.ensures ∙ c.if-is_blank.true))

pub returns-else-is_blank : goal.returns-else-is_blank
returns-else-is_blank c =
    c.if-is_blank.false
    ∙ sym (cycle-unfilled (facts_from c.args.p.now c.args.facts) _ _ c.row_len.ensures (ap blank (sym c.split_at.ensures.back) ∙ sym c.is_blank.ensures ∙ c.if-is_blank.false))

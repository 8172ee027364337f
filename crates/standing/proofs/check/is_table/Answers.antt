-- `is_table` meets its contract. Assumes nothing.
use mathlib.Core.Path.{◌∙◌, sym}
use Rattle.standing.proofs.Tabling.{no-numbers, not-placed, kept-decides}
use Rattle.standing.proofs.check.is_table.Goals as goal
use Rattle.standing.proofs.check.is_table.Goals.{then-all_numbers, else-all_numbers}

pub returns-then-all_placed : goal.returns-then-all_placed
returns-then-all_placed c =
    elim c.if-all_numbers.branch [
      | then-all_numbers w ↦ c.all_kept.ensures
          ∙ kept-decides c.args.s.now c.args.n c.requires c.all_numbers.ensures w.if-all_numbers.true w.all_placed.ensures (sym w.value-is ∙ c.if-all_placed.true)
      | else-all_numbers w ↦ absurd (cc)
    ]

pub returns-else-all_placed : goal.returns-else-all_placed
returns-else-all_placed c =
    elim c.if-all_numbers.branch [
      | then-all_numbers w ↦ c.if-all_placed.false
          ∙ not-placed c.args.s.now c.args.n c.requires w.all_placed.ensures (sym w.value-is ∙ c.if-all_placed.false)
      | else-all_numbers w ↦ c.if-all_placed.false ∙ no-numbers c.args.s.now c.args.n c.requires c.all_numbers.ensures w.if-all_numbers.false
    ]

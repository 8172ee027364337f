-- `add_fact` meets its contract: the refusal with the day as it came, or the new day. Assumes nothing.
use mathlib.Core.Path.{sym, ◌∙◌}
use mir.Facts.{to_z-of_z}
use Rattle.standing.proofs.Answers.{refused-with, accepted-with, number-some}
use Rattle.standing.proofs.adding.add_fact.Goals as goal

pub returns-in-Ok : goal.returns-in-Ok
returns-in-Ok c =
    let a = c.args in
    let q = rw (to_z-of_z c.ranges.x, to_z-of_z c.ranges.y, to_z-of_z c.ranges.c) at c.in-Ok.ensures in
    accepted-with a.day a.x a.y a.c a.opposite q.number c.in-Ok.day q.value

pub returns-in-Err : goal.returns-in-Err
returns-in-Err c =
    let a = c.args in
    let q = rw (to_z-of_z c.ranges.x, to_z-of_z c.ranges.y, to_z-of_z c.ranges.c) at c.in-Err.ensures in
    refused-with a.day a.x a.y a.c a.opposite c.from.result (c.from.ensures ∙ q.number) (λ z. number-some c.in-Err.refusal (sym c.from.ensures ∙ z))

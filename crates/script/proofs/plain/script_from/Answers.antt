-- `script::script_from` meets its contract: what remains, read from what was read, gives the same answer. Assumes nothing.
use mathlib.Core.Path.{sym, ap, ◌∙◌}
use Rattle.grammar.proofs.Parts.{starts}
use Rattle.grammar.specs.Automaton.{NoPiece}
use Rattle.script.specs.Script.{told, script_at}
use Rattle.script.proofs.Going.{begins, stuck, breaks-off, ended, piece-refused, piece-taken}
use Rattle.std.proofs.lemmas.Result.{err_from_is_err_and}
use Rattle.script.proofs.plain.script_from.Goals as goal
use Rattle.script.proofs.plain.script_from.Goals.{then-from-text-via-then-from-text, then-from-text-via-else-from-text+then-not-may_end}

pub loop-part-init : goal.loop-part-init
loop-part-init c =
    let a = c.args in
    begins a.text.now a.at _ starts c.blank-notes.ensures

pub returns-in_err-notes : goal.returns-in_err-notes
unfolding script_at told
returns-in_err-notes c =
    let a = c.args in
    let l = c.loop-part in
    let p = c.in-Some in
    let e = err_from_is_err_and c.from_residual.result c.from_residual.ensures.1 in
    rw (e.1, e.2) (ap told (sym (piece-refused a.text.now a.at l.from l.state _ l.invariant p.part p.ensures _ c.in_err-notes.ensures)))

pub loop-part-preserved : goal.loop-part-preserved
loop-part-preserved c =
    let a = c.args in
    let l = c.loop-part in
    let p = c.in-Some in
    piece-taken a.text.now a.at l.from l.state _ l.invariant p.part p.ensures c.in_ok-notes.notes c.in_ok-notes.ensures

pub returns-then-from-text : goal.returns-then-from-text
unfolding script_at told
returns-then-from-text c =
    let a = c.args in
    let l = c.loop-part in
    let none-there : NoPiece a.text.now l.from l.state = rw c.in_default.is at c.piece_at.ensures in
    elim c.then-from-text.branch [
      | then-from-text-via-then-from-text w ↦ ap told (sym (stuck a.text.now a.at l.from l.state _ l.invariant none-there w.if-from-text.true))
      | then-from-text-via-else-from-text+then-not-may_end w ↦ ap told (sym (breaks-off a.text.now a.at l.from l.state _ l.invariant none-there w.if-from-text.false (sym w.if-not-may_end.ensures)))
    ]

pub returns : goal.returns
unfolding script_at told
returns c =
    let a = c.args in
    let l = c.loop-part in
    let g = l.invariant in
    let none-there : NoPiece a.text.now l.from l.state = rw c.in_default.is at c.piece_at.ensures in
    c.script_of.ensures.says a.text.now g.read g.stands
    ∙ ap told (sym (ended a.text.now a.at l.from l.state _ g none-there c.if-from-text.false (sym c.if-not-may_end.ensures)))

-- `readers::reading` meets its contract: what remains of the next clause from alternative j on gives the same; the clauses left fall at each call. Assumes nothing.
use Rattle.std.proofs.Common.{Some, sym, ap, ◌∙◌, arith}
use Rattle.readers.specs.Leaves.{kind_of}
use Rattle.readers.proofs.Clauses.{clauses-none}
use Rattle.readers.proofs.Readings.{read-none, read-bad, read-ring, read-dead, read-stop, tested}
use Rattle.readers.proofs.Turns.{pass-start, pass-end, pass-stands, pass-no, pass-row}
use Rattle.readers.proofs.+reading.Goals as goal

pub returns-in_err-row : goal.returns-in_err-row
returns-in_err-row t c = rw c.from_residual.ensures (read-none _ _ _ _ c.in_err-row.ensures.cases)

pub returns-in_err-mark_of : goal.returns-in_err-mark_of
returns-in_err-mark_of t c =
    rw c.from_residual-in_err-mark_of.ensures (read-bad _ _ _ _ _ _ c.in_ok-row.ensures.cases.0 (sym c.in_err-mark_of.ensures))

pub returns-then-k-p : goal.returns-then-k-p
returns-then-k-p t c =
    read-stop _ _ _ _ _ _ c.in_ok-row.ensures.cases.0 (sym c.in_ok-mark_of.ensures ∙ ap (λ m. kind_of (Some m)) c.in-Onward.is) (clauses-none c.args.p.now _ _ (omega arith))

pub loop-j-init : goal.loop-j-init
loop-j-init t c =
    pass-start c.args.p.now _ (omega (arith, c.requires.chosen)) c.args.facts _ _ _ c.requires c.in_ok-row.ensures.cases.0 (sym c.in_ok-mark_of.ensures ∙ ap (λ m. kind_of (Some m)) c.in-Onward.is)

pub reading-requires : goal.reading-requires
reading-requires t c =
    (omega (arith, c.requires.chosen), pass-stands c.args.p.now _ (omega (arith, c.requires.chosen)) _ c.loop-j.j c.loop-j.known c.with.result _ c.loop-j.invariant c.loop-j-test.true c.with.ensures.0 c.with.ensures.1)

pub returns-in_err-rest-in-Onward : goal.returns-in_err-rest-in-Onward
returns-in_err-rest-in-Onward t c =
    rw c.from_residual-in_err-rest-in-Onward.ensures (pass-no c.args.p.now _ (omega (arith, c.requires.chosen)) _ c.loop-j.j c.loop-j.known c.with.result _ c.loop-j.invariant c.loop-j-test.true c.with.ensures.0 c.with.ensures.1 c.in_err-rest-in-Onward.ensures)

pub loop-j-preserved : goal.loop-j-preserved
loop-j-preserved t c =
    pass-row c.args.p.now _ (omega (arith, c.requires.chosen)) _ c.loop-j.j c.loop-j.known c.with.result _ c.loop-j.invariant c.loop-j-test.true c.with.ensures.0 c.with.ensures.1 _ c.with-known.result c.in_ok-rest-in-Onward.ensures c.with-known.ensures.0 c.with-known.ensures.1

pub returns-in-Ring : goal.returns-in-Ring
returns-in-Ring t c =
    tested _ _ _ _ c.then_some.ensures (rw c.is_cycle_row.ensures (read-ring _ _ _ _ _ _ c.in_ok-row.ensures.cases.0 (sym c.in_ok-mark_of.ensures ∙ ap (λ m. kind_of (Some m)) c.in-Ring.is)))

pub returns-in-Dead : goal.returns-in-Dead
returns-in-Dead t c =
    rw (read-dead _ _ _ _ _ _ c.in_ok-row.ensures.cases.0 _ (sym c.in_ok-mark_of.ensures ∙ ap (λ m. kind_of (Some m)) c.in-Dead.is)) c.dead.ensures

pub returns-after-loop-j : goal.returns-after-loop-j
returns-after-loop-j t c = pass-end c.args.p.now _ _ _ c.loop-j.known _ c.loop-j.invariant c.loop-j-test.false

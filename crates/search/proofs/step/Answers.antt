-- `search::step` meets its contract: each of its ways is one of the five of the search. Assumes nothing.
use mathlib.Core.Path.{sym, ◌∙◌}
use Prim.Native.Nat.{◌+◌}
use native.Mathlib.Omega.{arith}
use borrow.Author.Rules.{rules}
use Rattle.taking.proofs.Taking.{table-small}
use Rattle.search.proofs.Tables.{unsound-deep}
use Rattle.search.proofs.Steps.{counted-on}
use Rattle.search.proofs.Moving.{leaves-stacked, steps-unsound, steps-stop, steps-found}
use Rattle.search.proofs.step.Goals as goal

pub put_unsound-requires : goal.put_unsound-requires
put_unsound-requires g c =
    let p = c.args.p.now in
    let s = c.args.s.standing in
    let unsound = sym c.enters.ensures.decides ∙ c.if-not-enters.true in
    let (all, row) = table-small g.row.W c.requires.2.roomy.few in
    (all, (row, (c.requires.0.inside, unsound-deep p s.picks s.k unsound, c.enters.ensures.stays, unsound, omega (arith, c.requires.0.few))))

pub returns-then-not-enters : goal.returns-then-not-enters
returns-then-not-enters g c =
    let p = c.args.p.now in
    let s = c.args.s in (
      steps-unsound p c.args.allowance s (search rules) c.requires.0 c.args.reasons.now c.put_unsound.new.reasons c.leave.result (sym c.enters.ensures.decides ∙ c.if-not-enters.true) c.put_unsound.ensures.0 c.put_unsound.ensures.1 c.leave.ensures,
      leaves-stacked g.row.W p (counted-on s s.visits (s.rows + 1)) c.leave.result c.put_unsound.new.days (search rules) c.requires.0.inside c.leave.ensures c.put_unsound.ensures.2,
    )

pub returns-then-allowance-s : goal.returns-then-allowance-s
returns-then-allowance-s g c =
    (steps-stop c.args.p.now c.args.allowance c.args.s (search rules) c.requires.0 c.args.reasons.now (sym c.enters.ensures.decides ∙ c.if-not-enters.false) c.if-allowance-s.true, c.enters.ensures.stays.roomy)

pub returns-then-s-p : goal.returns-then-s-p
returns-then-s-p g c =
    (steps-found c.args.p.now c.args.allowance c.args.s (search rules) c.requires.0 c.args.reasons.now (sym c.enters.ensures.decides ∙ c.if-not-enters.false) (omega arith) (omega arith), c.enters.ensures.stays.roomy)

-- `readers::is_read` meets its contract. Assumes nothing.
use Rattle.std.proofs.Common.{refl, ap, ◌∙◌}
use Rattle.std.proofs.lemmas.Result.{err_from_is_err_and}
use Rattle.meaning.specs.Verdicts.{verdict}
use Rattle.meaning.proofs.Refusals.{refused-some}
use Rattle.problem.specs.Reads.{given}
use Rattle.readers.proofs.Saying.{reasons-refused, reasons-said}
use Rattle.readers.proofs.is_read.Goals as goal

pub returns-in_err-p : goal.returns-in_err-p
returns-in_err-p c =
    let q = err_from_is_err_and c.from_residual.result c.from_residual.ensures.1 in
    rw (q.1, q.2) (reasons-refused (given c.args.n c.args.triples.now c.args.counts.now) _ c.in_err-p.ensures.number (refused-some _) _)

pub returns : goal.returns
returns c = ap (verdict 0) c.is_reading.ensures ∙ reasons-said (given c.args.n c.args.triples.now c.args.counts.now) _ c.in_ok-p.ensures.number refl _ c.in_ok-p.ensures.reads _

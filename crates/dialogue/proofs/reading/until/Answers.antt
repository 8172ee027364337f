-- `until` meets its contract: the bytes before a stop are as many as its position says. Assumes nothing.
use mathlib.Core.Path.{sym}
use native.Mathlib.Omega.{arith}
use Rattle.dialogue.proofs.Spelling.{place_end}
use Rattle.dialogue.proofs.Placing.{place-position}
use Rattle.dialogue.proofs.reading.until.Goals as goal

pub returns-in_default-clause-value : goal.returns-in_default-clause-value
returns-in_default-clause-value c =
    let h = c.in_default.ensures.lookup.0 in
    sym (place_end c.args.stop c.args.text.now c.args.at (omega arith))

pub returns-clause-value : goal.returns-clause-value
returns-clause-value c =
    let a = c.args in
    place-position a.stop a.text.now c.in-Some.rest.now a.at _ _ c.in-Some.ensures.lookup.0.2 c.first_of.ensures c.unwrap_or.ensures

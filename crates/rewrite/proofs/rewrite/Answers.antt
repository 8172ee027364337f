-- `rewrite` meets its contract: what was read lies within its arrays, and it is written whole. Assumes nothing.
use mathlib.Core.Path.{sym}
use native.Mathlib.Omega.{arith}
use borrow.Author.Rules.{rules}
use Rattle.grammar.specs.Grammar.{bytes}
use Rattle.script.specs.Script.{lent_in}
use Rattle.script.specs.Text.{Writes}
use Rattle.script.proofs.Refusals.{number-below}
use Rattle.script.proofs.Fronts.{script-within}
use Rattle.rewrite.proofs.Printing.{prints-too-long, prints-refused, prints-text}
use Rattle.rewrite.proofs.rewrite.Goals as goal

pub returns-then-text-gt-BYTES : goal.returns-then-text-gt-BYTES
unfolding bytes
returns-then-text-gt-BYTES c =
    let h = prints-too-long c.args.text.now c.args.out.now c.requires _ _ (omega arith) c.put_too_long.ensures in
    record { upper_bound = h.0; after = h.1 }

pub triples-requires : goal.triples-requires
triples-requires c = (script-within _ _ (sym c.in-Ok.ensures)).0

pub counts-requires : goal.counts-requires
counts-requires c = (script-within _ _ (sym c.in-Ok.ensures)).1

pub returns-in-Ok : goal.returns-in-Ok
returns-in-Ok c =
    let w : Writes (lent_in c.in-Ok.script) _ c.write_script.result c.write_script.new.room = rw (c.triples.ensures, c.counts.ensures) at c.write_script.ensures in
    let h = prints-text c.args.text.now c.args.out.now c.requires _ (omega arith) c.in-Ok.script c.in-Ok.ensures c.write_script.result w in
    record { upper_bound = rw c.unwrap_or.ensures h.0; after = rw c.unwrap_or.ensures h.1 }

pub returns-in-Err : goal.returns-in-Err
returns-in-Err c =
    let d = c.in-Err.refused in
    let line = rw c.into.ensures at c.put_refusal.ensures in
    let h = prints-refused c.args.text.now c.args.out.now c.requires _ (omega arith) d _ c.in-Err.ensures (omega (arith, number-below d.refusal)) (search rules) line in
    record { upper_bound = h.0; after = h.1 }

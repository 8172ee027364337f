-- `put_refusal` meets its contract: one text after another, at the front.
use Rattle.std.proofs.Common.{rules, arith}
use Rattle.grammar.specs.Grammar.{bytes}
use Rattle.dialogue.proofs.Puts.{puts_then}
use Rattle.rewrite.proofs.put_refusal.Goals as goal

pub returns : goal.returns
unfolding bytes
returns c =
    let p = puts_then c.put_script_refused.ensures c.put.ensures in
    search (rules, p.after, p.place)

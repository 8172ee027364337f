-- `put_too_long` meets its contract: one text at the front.
use Rattle.std.proofs.Common.{rules}
use Rattle.grammar.specs.Grammar.{bytes}
use Rattle.rewrite.proofs.put_too_long.Goals as goal

pub returns : goal.returns
unfolding bytes
returns c = search rules

-- `is_kept` meets its contract: the words of the code are the kept words. Assumes nothing.
use mathlib.Core.Path.{◌∙◌}
use Rattle.grammar.specs.Grammar.{bytes}
use Rattle.script.specs.Words.{kept_words}
use Rattle.script.proofs.Wording.{any-one}
use Rattle.script.proofs.names.is_kept.Goals as goal

pub returns : goal.returns
unfolding kept_words bytes
returns c = c.contains.ensures.value ∙ any-one kept_words c.args.word.now

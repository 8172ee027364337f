-- `is_new` meets its contract: test by test. Assumes nothing.
use mathlib.Core.Bool.{not, true≢false}
use mathlib.Core.Path.{sym, ap, ◌∙◌}
use borrow.Author.Tests.{lt-leb}
use lib.ListN.{length}
use Rattle.script.specs.Words.{most_characters}
use Rattle.script.proofs.Declaring.{long-not-new, kept-not-new, new-unless-found, undone}
use Rattle.script.proofs.names.is_new.Goals as goal
use Rattle.script.proofs.names.is_new.Goals.{then-word-le-CHARACTERS, else-word-le-CHARACTERS}

pub returns-then-not-is_kept : goal.returns-then-not-is_kept
returns-then-not-is_kept c =
    elim c.if-word-le-CHARACTERS.branch [
      | then-word-le-CHARACTERS w ↦
          new-unless-found _ _ c.event_of.result c.is_none.result w.if-word-le-CHARACTERS.true
          (sym w.is_kept.ensures ∙ sym (undone w.is_kept.result w.value-is) ∙ ap not c.if-not-is_kept.true) c.event_of.ensures c.is_none.ensures
      | else-word-le-CHARACTERS w ↦ absurd (true≢false (sym c.if-not-is_kept.true ∙ w.value-is ∙ lt-leb (length c.args.word.now) most_characters w.if-word-le-CHARACTERS.false))
    ]

pub returns-else-not-is_kept : goal.returns-else-not-is_kept
returns-else-not-is_kept c =
    elim c.if-word-le-CHARACTERS.branch [
      | then-word-le-CHARACTERS w ↦
          c.if-not-is_kept.false
          ∙ sym (kept-not-new _ _ w.if-word-le-CHARACTERS.true (sym w.is_kept.ensures ∙ sym (undone w.is_kept.result w.value-is) ∙ ap not c.if-not-is_kept.false))
      | else-word-le-CHARACTERS w ↦ c.if-not-is_kept.false ∙ sym (long-not-new _ _ w.if-word-le-CHARACTERS.false)
    ]

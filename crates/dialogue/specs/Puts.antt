-- A writer, and what it leaves: the text stands from its place on, as far as there is room, in the buffer that was lent. Definitions only.
use Rattle.std.specs.Prelude.{◌≡◌, ℕ, List}
use Rattle.dialogue.specs.declared.writing.Writer.{Writer}
use Rattle.dialogue.specs.Written.{written, written_to}

-- the text is written from the writer's place on, its place is after it, and its buffer is the same one
pub record Puts (old new : Writer) (text : List ℕ) : Type 0 where
  pub after : new.out.now ≡ written old.out.now old.at text
  pub place : new.at ≡ written_to old.out.now old.at text
  pub lent : new.out.ghost_name ≡ old.out.ghost_name

-- A list of numbers, each led by a space, read into lent memory, one number for each of its elements.
-- Assumes nothing.
use Rattle.std.specs.Prelude.{ℕ, List, [], ◌∷◌, Option, Some, option_and_then, option_map, unwrap_or}
use Rattle.dialogue.specs.Words.{word_at, after_word}

module _ {A : Type 0} (read : List ℕ → Option A) (s : List ℕ) where
  -- the place after the list that begins at `at`, if all its words are numbers
  unfoldable pub after_list : ℕ → List A → Option ℕ
  after_list at [] = Some at
  after_list at (x ∷ old) = option_and_then (λ v. after_list (after_word s at) old) (read (word_at s at))

  -- what the memory then holds: the numbers, and what it held before from the first word on that is none
  unfoldable pub list_from : ℕ → List A → List A
  list_from at [] = []
  list_from at (x ∷ old) = unwrap_or (option_map (λ v. v ∷ list_from (after_word s at) old) (read (word_at s at))) (x ∷ old)

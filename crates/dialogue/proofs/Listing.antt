-- Laws of the definitions of `Lists`: one number more of a list, a word that is none, and the end. Assumes nothing.
use Prim.Native.Nat.{ℕ, suc, ◌+◌, ◌≤◌, ◌<◌}
use mathlib.Core.Path.{◌≡◌, sym}
use mathlib.Core.List.{List, [], ◌∷◌, ◌++◌, append-nil, append_assoc}
use Rattle.std.specs.Prelude.{Option, None, Some}
use native.Mathlib.Numerals.{add-one}
use native.Mathlib.Omega.{arith}
use lib.ListN.{length, take, drop, set, take-append-drop, drop_of_length-le}
use lib.Seq.{drop-cons, take_all, take-suc-set, drop-set-lt}
use Rattle.dialogue.specs.Words.{word_at, after_word}
use Rattle.dialogue.specs.Lists.{after_list, list_from}

module _ {A : Type 0} (read : List ℕ → Option A) (s : List ℕ) (at : ℕ) (out : List A) (i : ℕ) where
  pub after-end : length out ≤ i → after_list read s at (drop i out) ≡ Some at
  unfolding after_list
  after-end h = rw (drop_of_length-le out h)

  pub list-end : length out ≤ i → take i out ++ list_from read s at (drop i out) ≡ out
  unfolding list_from
  list-end h = rw (drop_of_length-le out h, take_all i out h) (append-nil out)

  module _ (z : A) (h : i < length out) where
    pub after_none : read (word_at s at) ≡ None → after_list read s at (drop i out) ≡ None
    unfolding after_list
    after_none e = rw (drop-cons out i z h, e)

    pub list-none : read (word_at s at) ≡ None → take i out ++ list_from read s at (drop i out) ≡ out
    unfolding list_from
    list-none e = rw (drop-cons out i z h, e, ← drop-cons out i z h) (take-append-drop i out)

    module _ (v : A) (p : ℕ) (e : read (word_at s at) ≡ Some v) (q : after_word s at ≡ p) where
      pub after_more : after_list read s at (drop i out) ≡ after_list read s p (drop (i + 1) (set out i v))
      unfolding after_list
      after_more = rw (← q, drop-cons out i z h, e, add-one i, drop-set-lt (suc i) out i v (omega arith))

      pub list-more : take i out ++ list_from read s at (drop i out) ≡ take (i + 1) (set out i v) ++ list_from read s p (drop (i + 1) (set out i v))
      unfolding list_from
      list-more =
          rw (← q, drop-cons out i z h, e, add-one i, drop-set-lt (suc i) out i v (omega arith), take-suc-set out i v h)
          (sym (append_assoc (take i out) (v ∷ []) (list_from read s (after_word s at) (drop (suc i) out))))

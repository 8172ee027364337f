-- What a call of `write_script` answers and leaves, by whether the problem is accepted and the text fits. Assumes nothing.
use mathlib.Core.Path.{◌≡◌, sym, ◌∙◌, refl}
use mathlib.Core.Bool.{true, cond}
use mathlib.Core.List.{◌++◌}
use Prim.Native.Nat.{ℕ, zero, suc, ◌-◌, ◌≤◌, ◌<◌}
use native.Mathlib.Omega.{arith}
use borrow.Author.Tests.{le-leb, lt-leb}
use lib.Dec.{leb}
use lib.ListN.{length, take, drop, length-replicate}
use Rattle.laws.proofs.Lists.{drop-replicate}
use Rattle.meaning.specs.Screen.{Lent, first_failed, problem_refusal}
use Rattle.meaning.proofs.Refusals.{problem-first, problem-passed}
use Rattle.dialogue.specs.declared.writing.Writer.{Writer}
use Rattle.dialogue.specs.Puts.{Puts}
use Rattle.dialogue.proofs.Buffers.{put_front}
use Rattle.std.specs.Prelude.{Ok, Err}
use Rattle.meaning.specs.declared.Refusal.{Refusal}
use Rattle.meaning.specs.declared.Refusal.TheVariants.{Room}
use Rattle.meaning.specs.Refusal.{number_of}
use Rattle.script.proofs.Refusals.{number-above}
use Rattle.script.specs.Text.{text_of, longest_text, write_refusal, zeros, room_after, Writes}
use Rattle.script.proofs.Lengths.{text-length}

pub length-zeros : (k : ℕ) → length (zeros k) ≡ k
length-zeros k = let z : ℕ = 0 in length-replicate k z

drop-zeros : (n k : ℕ) → drop n (zeros k) ≡ zeros (k - n)
drop-zeros n k = let z : ℕ = 0 in drop-replicate n k z

-- the text of an accepted problem is put whole into a buffer for the longest: it is all that the writer has written
pub put_whole : (l : Lent) {first last : Writer} → problem_refusal l ≡ 0 → first.out.now ≡ zeros longest_text → first.at ≡ 0 → Puts first last (text_of l) → take last.at last.out.now ≡ text_of l
put_whole l e empty front p =
    let fits : length (text_of l) ≤ length (zeros longest_text) = omega (arith, text-length l e, length-zeros longest_text) in
    (put_front (zeros longest_text) (text_of l) fits (rw (empty, front) at p.after, rw (empty, front) at p.place)).1

module _ (l : Lent) (room : ℕ) where
  -- a problem's own refusal comes first, and then the room decides
  pub refused-first : 0 < problem_refusal l → write_refusal l room ≡ problem_refusal l
  unfolding write_refusal
  refused-first h = problem-first l _ h

  pub room-decides : problem_refusal l ≡ 0 → write_refusal l room ≡ cond (leb (length (text_of l)) room) 0 21
  unfolding write_refusal first_failed
  room-decides e = problem-passed l _ e

  -- the room is all zeros where a number refuses it
  zeros-left : (number : ℕ) → 0 < number → write_refusal l room ≡ number → zeros room ≡ room_after l room (write_refusal l room)
  unfolding room_after
  zeros-left zero h e = absurd (omega arith)
  zeros-left (suc number) h e = rw e

  pub leaves-refused : (e : Refusal) → number_of e ≡ problem_refusal l → Writes l room (Err e) (zeros room)
  leaves-refused e q =
      let above : 0 < problem_refusal l = omega (arith, number-above e) in
      let first = refused-first above in
      record { number = q ∙ sym first; long = tt; room-is = zeros-left _ above first }

  pub leaves-too-long : problem_refusal l ≡ 0 → room < length (text_of l) → Writes l room (Err Room) (zeros room)
  leaves-too-long e h =
      let by-room : write_refusal l room ≡ 21 = room-decides e ∙ rw (lt-leb (length (text_of l)) room h) in
      record { number = sym by-room; long = tt; room-is = zeros-left 21 (omega arith) by-room }

  -- the text stands in the place of the first of the zeros
  pub leaves-text : problem_refusal l ≡ 0 → length (text_of l) ≤ room → Writes l room (Ok (length (text_of l))) (text_of l ++ drop (length (text_of l)) (zeros room))
  unfolding room_after
  leaves-text e fits =
      let taken : leb (length (text_of l)) room ≡ true = le-leb (length (text_of l)) room fits in
      let none : write_refusal l room ≡ 0 = room-decides e ∙ rw taken in
      record { number = sym none; long = refl; room-is = rw (none, drop-zeros (length (text_of l)) room) refl }

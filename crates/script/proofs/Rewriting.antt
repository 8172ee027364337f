-- Writing and reading undo each other: what is written of an accepted problem is read as that problem, writing that gives the same bytes, and
-- different problems have different texts; and what is settled of a call. Assumes nothing.
use mathlib.Core.Path.{◌≡◌, refl, sym, ap, ◌∙◌}
use mathlib.Core.List.{List}
use Prim.Native.Nat.{ℕ, zero, suc, ◌-◌, ◌≤◌}
use native.Mathlib.Omega.{arith}
use mathlib.Core.Bool.{Bool, true, false}
use borrow.Author.Tests.{le-leb, leb-true}
use lib.Dec.{leb}
use lib.ListN.{length, take}
use lib.Seq.{take-append_seam}
use Rattle.meaning.specs.Screen.{Lent, problem_refusal}
use Rattle.std.specs.Prelude.{Result, Ok, Err, IfOk}
use Rattle.std.specs.Result.{is_ok}
use Rattle.meaning.specs.declared.Refusal.{Refusal}
use Rattle.meaning.specs.Refusal.{told_as}
use Rattle.script.specs.declared.Script.{Script}
use Rattle.script.specs.Script.{script_in, lent_in}
use Rattle.script.specs.Text.{text_of, longest_text, write_refusal, zeros, room_after, Writes}
use Rattle.script.proofs.Refusals.{number-above, number-one}
use Rattle.script.proofs.Fronts.{script-one, script-said}
use Rattle.script.proofs.Lengths.{text-length}
use Rattle.script.proofs.Leaving.{refused-first, room-decides}
use Rattle.script.proofs.Rereading.{text-answered}

-- ---- of texts
module _ (l : Lent) (taken : problem_refusal l ≡ 0) where
  -- "reading it gives the same problem"
  pub text-read : (s : Script) × (script_in (text_of l) ≡ Ok s) × (lent_in s ≡ l)
  text-read = let a = text-answered l taken in let s = script-said (text_of l) 0 a.0 a.1 in (s.0, s.1, s.2 ∙ a.2)

  -- so the text is a script
  pub text-taken : is_ok (script_in (text_of l)) ≡ true
  text-taken = rw text-read.1

  -- "and writing that gives the same bytes"
  pub text-again : (s : Script) × (script_in (text_of l) ≡ Ok s) × (text_of (lent_in s) ≡ text_of l)
  text-again = let r = text-read in (r.0, r.1, ap text_of r.2)

  -- whatever it is read as is the problem
  read-as : (s : Script) → script_in (text_of l) ≡ Ok s → lent_in s ≡ l
  read-as s e = ap lent_in (script-one (sym e ∙ text-read.1)) ∙ text-read.2

-- "two different accepted problems never give the same text": each is what its text is read as
pub texts-apart : (l k : Lent) → problem_refusal l ≡ 0 → problem_refusal k ≡ 0 → text_of l ≡ text_of k → l ≡ k
texts-apart l k p q e = let r = text-read l p in sym r.2 ∙ read-as k q r.0 (ap script_in (sym e) ∙ r.1)

-- ---- of calls
-- two results allowed for one call are the same
pub writes-same : {l : Lent} {room : ℕ} {a b : Result ℕ Refusal} {s t : List ℕ} → Writes l room a s → Writes l room b t → (a ≡ b) × (s ≡ t)
writes-same {l} {room} {a} {b} p q = (go a b (p.number ∙ sym q.number) p.long q.long, p.room-is ∙ sym q.room-is)
  where
    go : (a b : Result ℕ Refusal) → told_as a ≡ told_as b → IfOk a (λ k. k ≡ length (text_of l)) → IfOk b (λ k. k ≡ length (text_of l)) → a ≡ b
    go (Ok j) (Ok k) e x y = ap Ok (x ∙ sym y)
    go (Ok j) (Err d) e x y = absurd (omega (arith, number-above d))
    go (Err d) (Ok k) e x y = absurd (omega (arith, number-above d))
    go (Err d) (Err f) e x y = ap Err (number-one d f e)

-- a text was written: the problem is accepted, and the text stands at the room's front
pub record Wrote (l : Lent) (room length-is : ℕ) (held : List ℕ) : Type 0 where
  pub taken : problem_refusal l ≡ 0
  pub long : length-is ≡ length (text_of l)
  pub fits : length (text_of l) ≤ room
  pub front : take length-is held ≡ text_of l

pub wrote : (l : Lent) (room k : ℕ) (held : List ℕ) → Writes l room (Ok k) held → Wrote l room k held
wrote l room k held w = by-refusal (problem_refusal l) refl (leb (length (text_of l)) room) refl
  where
    by-refusal : (r : ℕ) → problem_refusal l ≡ r → (t : Bool) → leb (length (text_of l)) room ≡ t → Wrote l room k held
    by-refusal zero e true f =
        let none : write_refusal l room ≡ 0 = sym w.number in
        let q : held ≡ room_after l room 0 = rw none at w.room-is in
        record { taken = e; long = w.long; fits = leb-true (length (text_of l)) room f; front = rw (w.long, q) (unfold room_after in take-append_seam (text_of l) (zeros (room - length (text_of l)))) }
    by-refusal zero e false f = let r : write_refusal l room ≡ 21 = room-decides l room e ∙ rw f in absurd (omega (arith, r, w.number))
    by-refusal (suc r) e t f = absurd (omega (arith, refused-first l room (rw e (omega arith)), w.number))

-- what a call has written is read as the problem that it was given
pub written_read : (l : Lent) (room k : ℕ) (held : List ℕ) → Writes l room (Ok k) held → (s : Script) × (script_in (take k held) ≡ Ok s) × (lent_in s ≡ l)
written_read l room k held w = let f = wrote l room k held w in rw f.front (text-read l f.taken)

-- and a call with what was read leaves the same
pub written-again : (l : Lent) (room k : ℕ) (held : List ℕ) (b : Result ℕ Refusal) (t : List ℕ) → Writes l room (Ok k) held → (s : Script) × (script_in (take k held) ≡ Ok s) × (Writes (lent_in s) room b t → (b ≡ Ok k) × (t ≡ held))
written-again l room k held b t w =
    let r = written_read l room k held w in
    (r.0, r.1, λ v. writes-same (rw r.2 at v) w)

-- a room of `longest_text` bytes is enough for every accepted problem
pub room-enough : (l : Lent) (room : ℕ) (a : Result ℕ Refusal) (held : List ℕ) → problem_refusal l ≡ 0 → longest_text ≤ room → Writes l room a held → a ≡ Ok (length (text_of l))
room-enough l room a held e h w = go a (w.number ∙ room-decides l room e ∙ rw (le-leb (length (text_of l)) room (omega (arith, text-length l e)))) w.long
  where
    go : (a : Result ℕ Refusal) → told_as a ≡ 0 → IfOk a (λ k. k ≡ length (text_of l)) → a ≡ Ok (length (text_of l))
    go (Ok k) z x = ap Ok x
    go (Err d) z x = absurd (omega (arith, number-above d))

-- What is printed for a text, by what was read of it and written. Assumes nothing.
use mathlib.Core.Path.{◌≡◌, sym, ◌∙◌}
use mathlib.Core.Bool.{Bool, true, false, cond}
use mathlib.Core.List.{List, ◌++◌}
use Prim.Native.Nat.{ℕ, ◌^◌, ◌≤◌, ◌<◌}
use native.Mathlib.Omega.{arith}
use borrow.Author.Tests.{lt-ltb, le-ltb}
use lib.Dec.{eqb}
use lib.ListN.{length, take, length-append}
use Rattle.meaning.specs.Screen.{Lent}
use Rattle.dialogue.specs.Written.{written, written_to}
use Rattle.dialogue.proofs.Buffers.{put_front}
use Rattle.dialogue.proofs.Decimals.{short-decimal}
use Rattle.grammar.specs.Grammar.{bytes}
use Rattle.script.specs.declared.Script.{Script}
use Rattle.std.specs.Prelude.{Result, Ok, Err}
use Rattle.std.specs.Result.{result_unwrap_or}
use Rattle.meaning.specs.declared.Refusal.{Refusal}
use Rattle.meaning.specs.Refusal.{number_of}
use Rattle.script.specs.declared.Refused.{Refused}
use Rattle.script.specs.Script.{script_in, lent_in, most_bytes}
use Rattle.script.specs.Text.{text_of, longest_text, Writes}
use Rattle.script.proofs.Fronts.{script-problem}
use Rattle.script.proofs.Rewriting.{wrote, room-enough}
use Rattle.exchange.specs.Replies.{next, refused_text, refused_at_text, script_refused_text}
use Rattle.rewrite.specs.Says.{line_of, of_script, rewriting}

-- what was put at the front of the room for what is printed is all of it
abbrev Printed : List ℕ → List ℕ → List ℕ → ℕ → Type 0
Printed text out held to = (to ≤ length out) × (take to held ≡ rewriting text)

-- what was put is printed whole where there is room for it
put-printed : {held : List ℕ} {to : ℕ} (text out t : List ℕ) → length t ≤ length out → rewriting text ≡ t → (held ≡ written out 0 t) × (to ≡ written_to out 0 t) → Printed text out held to
put-printed text out t fits e p = let f = put_front out t fits p in (omega (arith, f.0), f.1 ∙ sym e)

-- the line of a refusal is no longer than the longest text
line-length : (number place : ℕ) → number < 2 ^ 64 → place < 2 ^ 64 → length (line_of number place) ≤ longest_text
unfolding script_refused_text bytes
line-length number place n p = omega (arith, length-append (script_refused_text number place) (bytes "\n"), go (eqb number 20))
  where
    go : (b : Bool) → length (cond b (refused_at_text number place) (refused_text number)) ≤ 49
    go true = omega (arith, short-decimal 20 19 number (omega arith), short-decimal 20 19 place (omega arith), length-append (refused_text number) (next place))
    go false = omega (arith, short-decimal 20 19 number (omega arith))

module _ (text out : List ℕ) (enough : longest_text ≤ length out) (held : List ℕ) where
  pub prints-too-long : (to : ℕ) → most_bytes < length text → (held ≡ written out 0 (bytes "too long\n")) × (to ≡ written_to out 0 (bytes "too long\n")) → Printed text out held to
  unfolding rewriting bytes
  prints-too-long to h p = put-printed text out (bytes "too long\n") (omega arith) (rw (lt-ltb most_bytes (length text) h)) p

  module _ (short : length text ≤ most_bytes) where
    by-script : {r : Result Script Refused} → r ≡ script_in text → rewriting text ≡ of_script r
    unfolding rewriting
    by-script e = rw (le-ltb most_bytes (length text) short, e)

    pub prints-refused : (d : Refused) (to : ℕ) → Err d ≡ script_in text → number_of d.refusal < 2 ^ 64 → d.place < 2 ^ 64
        → (held ≡ written out 0 (line_of (number_of d.refusal) d.place)) × (to ≡ written_to out 0 (line_of (number_of d.refusal) d.place)) → Printed text out held to
    unfolding of_script
    prints-refused d to e h k p = put-printed text out (line_of (number_of d.refusal) d.place) (omega (arith, line-length (number_of d.refusal) d.place h k)) (by-script e) p

    -- what was read is accepted, and there is room for the longest text
    pub prints-text : (s : Script) → Ok s ≡ script_in text → (answer : Result ℕ Refusal) → Writes (lent_in s) (length out) answer held → Printed text out held (result_unwrap_or answer 0)
    unfolding of_script
    prints-text s e answer w =
        let l : Lent = lent_in s in
        let a = room-enough l (length out) answer held (script-problem text s (sym e)) enough w in
        let f = wrote l (length out) (length (text_of l)) held (rw a at w) in
        rw a (f.fits, f.front ∙ sym (by-script e))

-- What is said of a text, by what was read and planned. Assumes nothing.
use mathlib.Core.Path.{◌≡◌, sym, ap, ◌∙◌}
use mathlib.Core.List.{List}
use Prim.Native.Nat.{ℕ, ◌≤◌, ◌<◌}
use borrow.Author.Tests.{lt-ltb, le-ltb}
use lib.ListN.{length}
use Rattle.meaning.specs.declared.Answer.{Answer}
use Rattle.std.specs.Prelude.{Result, Ok, Err}
use Rattle.meaning.specs.Refusal.{number_of}
use Rattle.meaning.specs.Screen.{screen}
use Rattle.script.specs.declared.Script.{Script}
use Rattle.script.specs.declared.Refused.{Refused as Refusing}
use Rattle.script.specs.Script.{script_in, most_bytes}
use Rattle.solve.specs.declared.Saying.TheVariants.{Refused, TooLong}
use Rattle.solve.specs.Says.{of_answer, asked, of_script, says}

module _ (text : List ℕ) where
  pub says-too-long : most_bytes < length text → TooLong ≡ says text
  unfolding says
  says-too-long h = rw (lt-ltb most_bytes (length text) h)

  module _ (short : length text ≤ most_bytes) where
    says-script : {r : Result Script Refusing} → r ≡ script_in text → says text ≡ of_script r
    unfolding says
    says-script e = rw (le-ltb most_bytes (length text) short, e)

    pub says-refused : (e : Refusing) → Err e ≡ script_in text → Refused (number_of e.refusal) e.place ≡ says text
    unfolding of_script
    says-refused e q = sym (says-script q)

    pub says-planned : (s : Script) (a : Answer) → Ok s ≡ script_in text → a ≡ (screen (asked s)).answer → of_answer a ≡ says text
    unfolding of_script
    says-planned s a q p = ap of_answer p ∙ sym (says-script q)

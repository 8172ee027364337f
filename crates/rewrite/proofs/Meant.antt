-- What `rewrite` prints of a script that is read is a script of the same problem, itself written anew as it stands, and the same bytes are printed
-- of two scripts exactly where they say the same problem: so `diff` compares rules. Assumes nothing.
use mathlib.Core.Path.{◌≡◌, sym, ap, ◌∙◌}
use mathlib.Core.List.{List}
use Prim.Native.Nat.{ℕ, ◌≤◌}
use native.Mathlib.Omega.{arith}
use borrow.Author.Tests.{le-ltb}
use lib.ListN.{length}
use Rattle.std.specs.Prelude.{Ok}
use Rattle.script.specs.declared.Script.{Script}
use Rattle.script.specs.Script.{script_in, lent_in, most_bytes}
use Rattle.script.specs.Text.{text_of}
use Rattle.script.proofs.Fronts.{script-problem}
use Rattle.script.proofs.Lengths.{text-length}
use Rattle.script.proofs.Rewriting.{text-read, texts-apart}
use Rattle.rewrite.specs.Says.{of_script, rewriting}

-- a text that `rewrite` takes: not too long, and a script
pub record Taken (text : List ℕ) : Type 0 where
  pub short : length text ≤ most_bytes
  pub script : Script
  pub read : script_in text ≡ Ok script

module _ (text : List ℕ) (taken : Taken text) where
  prints : rewriting text ≡ text_of (lent_in taken.script)
  unfolding rewriting of_script
  prints = rw (le-ltb most_bytes (length text) taken.short, taken.read)

  -- it is taken itself, since no text is longer than is read
  pub printed-taken : Taken (rewriting text)
  printed-taken =
      let accepted = script-problem text taken.script taken.read in
      let r = text-read (lent_in taken.script) accepted in
      record { short = rw prints (omega (arith, text-length (lent_in taken.script) accepted)); script = r.0; read = rw prints r.1 }

  pub printed-same : lent_in printed-taken.script ≡ lent_in taken.script
  unfolding printed-taken
  printed-same = (text-read (lent_in taken.script) (script-problem text taken.script taken.read)).2

-- written anew once more, it stays as it is
pub printed-again : (text : List ℕ) → Taken text → rewriting (rewriting text) ≡ rewriting text
printed-again text taken =
    let p = printed-taken text taken in
    prints (rewriting text) p ∙ ap text_of (printed-same text taken) ∙ sym (prints text taken)

-- the same bytes exactly where the problem is the same
module _ (a b : List ℕ) (p : Taken a) (q : Taken b) where
  pub same-printed : lent_in p.script ≡ lent_in q.script → rewriting a ≡ rewriting b
  same-printed e = prints a p ∙ ap text_of e ∙ sym (prints b q)

  pub printed-apart : rewriting a ≡ rewriting b → lent_in p.script ≡ lent_in q.script
  printed-apart e = texts-apart (lent_in p.script) (lent_in q.script) (script-problem a p.script p.read) (script-problem b q.script q.read) (sym (prints a p) ∙ e ∙ prints b q)

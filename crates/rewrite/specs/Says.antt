-- What `rewrite` prints for a text. Definitions only.
use Rattle.std.specs.Prelude.{cond, List, ◌++◌, ℕ, ltb, length, Result, Ok, Err}
use Rattle.meaning.specs.Refusal.{number_of}
use Rattle.grammar.specs.Grammar.{bytes}
use Rattle.script.specs.declared.Script.{Script}
use Rattle.script.specs.declared.Refused.{Refused}
use Rattle.script.specs.Script.{script_in, lent_in, most_bytes}
use Rattle.script.specs.Text.{text_of}
use Rattle.exchange.specs.Replies.{script_refused_text}

-- the line of a refusal
abbrev pub line_of : ℕ → ℕ → List ℕ
line_of number place = script_refused_text number place ++ bytes "\n"

-- the problem that was read, written anew, or the refusal in a line
unfoldable pub of_script : Result Script Refused → List ℕ
of_script (Ok s) = text_of (lent_in s)
of_script (Err e) = line_of (number_of e.refusal) e.place

unfoldable pub rewriting : List ℕ → List ℕ
rewriting text = let r = of_script (script_in text) in cond (ltb most_bytes (length text)) (bytes "too long\n") r

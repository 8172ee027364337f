-- What `solve` says of a text, and the line that it prints. Definitions only.
use Rattle.std.specs.Prelude.{cond, List, ℕ, ltb, length, Result, Ok, Err}
use Rattle.meaning.specs.declared.Answer.{Answer}
use Rattle.meaning.specs.Refusal.{number_of}
use Rattle.meaning.specs.Limits.{most_events, most_clauses, most_allowance}
use Rattle.meaning.specs.Screen.{Input, screen}
use Rattle.grammar.specs.Grammar.{bytes}
use Rattle.script.specs.declared.Script.{Script}
use Rattle.script.specs.declared.Refused.{Refused as Refusing}
use Rattle.script.specs.Script.{script_in, lent_in, most_bytes}
use Rattle.planner.specs.Call.{call}
use Rattle.exchange.specs.Replies.{script_refused_text}
use Rattle.solve.specs.declared.Saying.{Saying}
use Rattle.solve.specs.declared.Saying.TheVariants.{Sat, Unsat, Unknown, Refused, TooLong}

-- "sat, unsat, unknown (stopped), the refusal"
unfoldable pub of_answer : Answer → Saying
of_answer (Answer.Plan v b) = Sat
of_answer (Answer.None v b r) = Unsat
of_answer (Answer.Unlisted v b r) = Unsat
of_answer (Answer.Stopped v b) = Unknown
of_answer (Answer.Refused n) = Refused n 0

-- the call of `plan` for what was read, "with allowance 1,000,000": a time for each event, a pick for each clause, no room for reasons
abbrev pub asked : Script → Input
asked s = call s.n (lent_in s).triples (lent_in s).counts most_allowance most_events most_clauses 0

unfoldable pub of_script : Result Script Refusing → Saying
of_script (Ok s) = of_answer (screen (asked s)).answer
of_script (Err e) = Refused (number_of e.refusal) e.place

unfoldable pub says : List ℕ → Saying
says text = let r = of_script (script_in text) in cond (ltb most_bytes (length text)) TooLong r

-- the line
unfoldable pub said : Saying → List ℕ
said Sat = bytes "sat"
said Unsat = bytes "unsat"
said Unknown = bytes "unknown"
said (Refused n place) = script_refused_text n place
said TooLong = bytes "too long"

-- The text of a problem, line by line, and what `write_script` answers and leaves in the room: 02, A5. Definitions only.
-- "D1 gives exactly these lines, each ended by a line feed: (set-logic QF_IDL), (declare-fun e0 () Int), (declare-fun e1 () Int),
-- (assert (<= (- e0 e1) (- 30))), (check-sat)."
use Rattle.std.specs.Prelude.{◌≡◌, List, [], ◌∷◌, ◌++◌, map, ℕ, zero, suc, ◌+◌, ◌*◌, ◌-◌, leb, ℤ, pos, negsuc, length, replicate, Result, IfOk}
use Rattle.meaning.specs.declared.Refusal.{Refusal}
use Rattle.meaning.specs.Refusal.{told_as}
use Rattle.meaning.specs.Limits.{most_events, most_clauses, most_alternatives}
use Rattle.meaning.specs.Problem.{Alternative, Clause}
use Rattle.meaning.specs.Screen.{Lent, clauses_of, problem_tests, first_failed}
use Rattle.dialogue.specs.Written.{decimal, led}
use Rattle.grammar.specs.Grammar.{bytes}

-- ---- the text
-- "events named e0, e1 and so on"
unfoldable pub name_of : ℕ → List ℕ
name_of e = bytes "e" ++ decimal e

unfoldable pub declaration_of : ℕ → List ℕ
declaration_of e = bytes "(declare-fun " ++ (name_of e ++ bytes " () Int)\n")

-- so many declarations, from that of the event e on
unfoldable pub declarations_from : ℕ → ℕ → List ℕ
declarations_from e zero = []
declarations_from e (suc more) = declaration_of e ++ declarations_from (suc e) more

-- a bound: 4, 0, (- 30)
unfoldable pub bound_of : ℤ → List ℕ
bound_of (pos v) = decimal v
bound_of (negsuc v) = bytes "(- " ++ (decimal (suc v) ++ bytes ")")

unfoldable pub atom_of : ℕ → ℕ → ℤ → List ℕ
atom_of x y c = bytes "(<= (- " ++ (name_of x ++ (bytes " " ++ (name_of y ++ (bytes ") " ++ (bound_of c ++ bytes ")")))))

abbrev pub atom_text : Alternative → List ℕ
atom_text a = atom_of a.x a.y a.c

-- the atoms of a clause: "an empty clause is (assert false)", one stands alone, "several alternatives are parted by single spaces inside (or ...)"
unfoldable pub held_of : List (List ℕ) → List ℕ
held_of [] = bytes "false"
held_of (atom ∷ []) = atom
held_of (atom ∷ (next ∷ more)) = bytes "(or" ++ (led (atom ∷ next ∷ more) ++ bytes ")")

unfoldable pub assert_of : Clause → List ℕ
assert_of c = bytes "(assert " ++ (held_of (map atom_text c) ++ bytes ")\n")

unfoldable pub asserts_of : List Clause → List ℕ
asserts_of [] = []
asserts_of (c ∷ cs) = assert_of c ++ asserts_of cs

unfoldable pub text_of : Lent → List ℕ
text_of l = bytes "(set-logic QF_IDL)\n" ++ (declarations_from 0 l.n ++ (asserts_of (clauses_of l) ++ bytes "(check-sat)\n"))

-- no text of an accepted problem is longer: its first and last line, and at the most 25 bytes for each event, 15 for each clause and 28 for each
-- alternative
abbrev pub longest_text : ℕ
longest_text = 31 + 25 * most_events + 15 * most_clauses + 28 * most_alternatives

-- ---- the call
-- "refused with 1 to 6, then 21 exactly when the text is longer than the room"; 12 as A6 has it
unfoldable pub write_refusal : Lent → ℕ → ℕ
write_refusal l room = first_failed (problem_tests l ++ (21, leb (length (text_of l)) room) ∷ [])

abbrev pub zeros : ℕ → List ℕ
zeros k = replicate k 0

-- "refused, the room is all zeros; after a text the rest is zeros"
unfoldable pub room_after : Lent → ℕ → ℕ → List ℕ
room_after l room zero = text_of l ++ zeros (room - length (text_of l))
room_after l room (suc number) = zeros room

-- what a call with a room of so many bytes answers, the length written or refused, and what the room then holds
pub record Writes (l : Lent) (room : ℕ) (answer : Result ℕ Refusal) (held : List ℕ) : Type 0 where
  pub number : told_as answer ≡ write_refusal l room
  pub long : IfOk answer (λ k. k ≡ length (text_of l))
  pub room-is : held ≡ room_after l room (write_refusal l room)

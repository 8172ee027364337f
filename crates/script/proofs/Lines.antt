-- The lines of a written text lead from grammar to grammar, whatever the names and the bounds in them: tested once, by computation. Assumes nothing.
use mathlib.Core.Path.{◌≡◌, refl}
use mathlib.Core.List.{List, [], ◌∷◌}
use Prim.Native.Nat.{ℕ, zero, suc, ◌<◌}
use native.Mathlib.Omega.{arith}
use lib.Dec.{T}
use Rattle.grammar.specs.Grammar.{Role, new_name, first_name, second_name, bound_digit, negated_digit, declaration_end, assert_end, check_end, role_no, bytes, among, is_a, Grammar, spelled, blank, gap, parting, opening, closing_as, symbol_as, numeral_as, bound, difference, atom, optional, held, declared, command, set_logic, check_sat, script}
use Rattle.grammar.specs.Place.{ends, live, follow, is_none, choose, after, role_of}
use Rattle.grammar.proofs.Same.{by_number, both, kept, same, kind_no}
use Rattle.grammar.proofs.Places.{after_all}
use Rattle.script.proofs.Strokes.{Stroke, plainly, marks, takes, goes}

-- ---- the words
-- an event's name: e and digits
abbrev pub name : Role → List ℕ → Stroke
name r behind = record { role = r; first = 101; firsts = 1; more = 48; mores = 10; behind = behind }

-- a numeral that is not 0: a digit from 1 to 9, and digits
abbrev pub numeral : Role → List ℕ → Stroke
numeral r behind = record { role = r; first = 49; firsts = 9; more = 48; mores = 10; behind = behind }

-- one byte
abbrev pub single : Role → ℕ → List ℕ → Stroke
single r b behind = record { role = r; first = b; firsts = 1; more = 0; mores = 0; behind = behind }

-- ---- the places between them
-- where a line begins, after the first
unfoldable pub lines : Grammar
lines = after_all (bytes "(set-logic QF_IDL)\n") script

-- before what an assert holds, and after it
unfoldable pub opened : Grammar
opened = after_all (bytes "(assert ") lines

unfoldable pub closed : Grammar
closed = after_all (bytes "false") opened

-- inside an or, after so many atoms
unfoldable pub in_or : ℕ → Grammar
in_or zero = after_all (bytes "(or") opened
in_or (suc k) = after_all (bytes " (<= (- e e) 0)") (in_or k)

-- in an atom that began at g, before its bound
unfoldable pub bounding : Grammar → Grammar
bounding g = after_all (bytes "(<= (- e e) ") g

-- after the last line
unfoldable pub finished : Grammar
finished = after_all (bytes "(check-sat)\n") lines

-- ---- the lines
abbrev pub declaring : List Stroke
declaring = name new_name (bytes " () Int") ∷ single declaration_end 41 (bytes "\n") ∷ []

abbrev pub asserting : List Stroke
asserting = single assert_end 41 (bytes "\n") ∷ []

abbrev pub checking : List Stroke
checking = single check_end 41 (bytes "\n") ∷ []

abbrev pub naming : List Stroke
naming = name first_name (bytes " ") ∷ name second_name (bytes ") ") ∷ []

-- an atom leads from g to h: its names, and a bound of each kind
pub record Atom (g h : Grammar) : Type 0 where
  pub opens : T (plainly (bytes "(<= (- ") g)
  pub names : T (goes naming (after_all (bytes "(<= (- ") g) (bounding g))
  pub at-zero : T (goes (single bound_digit 48 (bytes ")") ∷ []) (bounding g) h)
  pub above_zero : T (goes (numeral bound_digit (bytes ")") ∷ []) (bounding g) h)
  pub minus : T (plainly (bytes "(- ") (bounding g))
  pub below-zero : T (goes (numeral negated_digit (bytes "))") ∷ []) (after_all (bytes "(- ") (bounding g)) h)

-- the lines, and what an assert may hold
pub record Lines : Type 0 where
  pub begins : T (plainly (bytes "(set-logic QF_IDL)\n") script)
  pub declares : T (plainly (bytes "(declare-fun ") lines)
  pub declared : T (goes declaring (after_all (bytes "(declare-fun ") lines) lines)
  pub opens : T (plainly (bytes "(assert ") lines)
  pub closes : T (goes asserting closed lines)
  pub checks : T (plainly (bytes "(check-sat") lines)
  pub ended : T (goes checking (after_all (bytes "(check-sat") lines) finished)
  pub ends_there : T (ends finished)
  pub empty : T (plainly (bytes "false") opened)
  pub alone : Atom opened closed
  pub or-opens : T (plainly (bytes "(or") opened)
  pub or-leads : (k : ℕ) → k < 4 → T (plainly (bytes " ") (in_or k)) × Atom (after_all (bytes " ") (in_or k)) (in_or (suc k))
  pub or-closes : (k : ℕ) → k < 3 → T (plainly (bytes ")") (in_or (suc (suc k)))) × (after_all (bytes ")") (in_or (suc (suc k))) ≡ closed)

-- ---- the tests
pub lines-lead : Lines
unfolding after_all plainly marks takes goes lines opened closed in_or bounding finished by_number both kept same kind_no bytes among is_a role_no spelled blank gap parting opening closing_as symbol_as numeral_as bound difference atom optional held declared command set_logic check_sat script ends live follow is_none choose after role_of
lines-lead =
    record {
      begins = tt;
      declares = tt;
      declared = tt;
      opens = tt;
      closes = tt;
      checks = tt;
      ended = tt;
      ends_there = tt;
      empty = tt;
      alone = record { opens = tt; names = tt; at-zero = tt; above_zero = tt; minus = tt; below-zero = tt };
      or-opens = tt;
      or-leads = up-to-four;
      or-closes = from-two;
    }
  where
    up-to-four : (k : ℕ) → k < 4 → T (plainly (bytes " ") (in_or k)) × Atom (after_all (bytes " ") (in_or k)) (in_or (suc k))
    up-to-four zero h = (tt, record { opens = tt; names = tt; at-zero = tt; above_zero = tt; minus = tt; below-zero = tt })
    up-to-four (suc zero) h = (tt, record { opens = tt; names = tt; at-zero = tt; above_zero = tt; minus = tt; below-zero = tt })
    up-to-four (suc (suc zero)) h = (tt, record { opens = tt; names = tt; at-zero = tt; above_zero = tt; minus = tt; below-zero = tt })
    up-to-four (suc (suc (suc zero))) h = (tt, record { opens = tt; names = tt; at-zero = tt; above_zero = tt; minus = tt; below-zero = tt })
    up-to-four (suc (suc (suc (suc k)))) h = absurd (omega arith)

    from-two : (k : ℕ) → k < 3 → T (plainly (bytes ")") (in_or (suc (suc k)))) × (after_all (bytes ")") (in_or (suc (suc k))) ≡ closed)
    from-two zero h = (tt, refl)
    from-two (suc zero) h = (tt, refl)
    from-two (suc (suc zero)) h = (tt, refl)
    from-two (suc (suc (suc k))) h = absurd (omega arith)

-- Worked problems with their texts, which antt computes. Assumes nothing.
use mathlib.Core.Path.{◌≡◌, refl}
use mathlib.Core.List.{[], ◌∷◌, ◌++◌, map}
use Prim.Native.Nat.{◌-◌}
use lib.IntN.{pos}
use Rattle.meaning.specs.Limits.{most_events, most_bound}
use Rattle.meaning.specs.Screen.{alternatives, parted, clauses_of}
use Rattle.meaning.proofs.Days.{lent, alt, minus, d1, d2}
use Rattle.dialogue.specs.Written.{decimal_in, led}
use Rattle.grammar.specs.Grammar.{bytes}
use Rattle.script.specs.Text.{name_of, declaration_of, declarations_from, bound_of, atom_of, held_of, assert_of, asserts_of, text_of, longest_text}
use Rattle.script.proofs.Answers.{script-of-d1}

-- "D1 gives exactly these lines, each ended by a line feed"
d1-text : text_of d1 ≡ script-of-d1
unfolding script-of-d1 text_of declarations_from declaration_of name_of asserts_of assert_of held_of atom_of bound_of led decimal_in bytes clauses_of parted alternatives
d1-text = refl

-- two alternatives stand inside an or; so do four; 0, and bounds of either sign as far as they go; no clause; and an empty one
worked-texts :
    map text_of (
    d2
    ∷ lent 2 (alt 0 1 (pos 0) ++ alt 1 0 (pos most_bound) ++ alt 0 1 (minus most_bound) ++ alt 1 0 (minus 1)) (4 ∷ [])
    ∷ lent 3 [] []
    ∷ lent 1 [] (0 ∷ []) ∷ [])
    ≡ map bytes (
    "(set-logic QF_IDL)\n(declare-fun e0 () Int)\n(declare-fun e1 () Int)\n(declare-fun e2 () Int)\n(declare-fun e3 () Int)\n(assert (or (<= (- e2 e1) 6) (<= (- e0 e3) 4)))\n(assert (or (<= (- e2 e0) 1) (<= (- e3 e0) (- 5))))\n(assert (or (<= (- e0 e2) (- 2)) (<= (- e1 e2) (- 7))))\n(check-sat)\n"
    ∷ "(set-logic QF_IDL)\n(declare-fun e0 () Int)\n(declare-fun e1 () Int)\n(assert (or (<= (- e0 e1) 0) (<= (- e1 e0) 100000) (<= (- e0 e1) (- 100000)) (<= (- e1 e0) (- 1))))\n(check-sat)\n"
    ∷ "(set-logic QF_IDL)\n(declare-fun e0 () Int)\n(declare-fun e1 () Int)\n(declare-fun e2 () Int)\n(check-sat)\n"
    ∷ "(set-logic QF_IDL)\n(declare-fun e0 () Int)\n(assert false)\n(check-sat)\n" ∷ [])
unfolding text_of declarations_from declaration_of name_of asserts_of assert_of held_of atom_of bound_of led decimal_in bytes clauses_of parted alternatives
worked-texts = refl

-- the last of as many events as there may be
last_name : name_of (most_events - 1) ≡ bytes "e23"
unfolding name_of decimal_in bytes
last_name = refl

-- the room that is always enough, as the README has it
longest-is : longest_text ≡ 2903
longest-is = refl

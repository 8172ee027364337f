-- Worked texts with their answers, which antt computes: one table, one claim. Assumes nothing.
use mathlib.Core.Path.{◌≡◌, refl}
use mathlib.Core.List.{List, [], ◌∷◌, ◌++◌, map}
use Prim.Native.Nat.{ℕ, zero, suc, ◌+◌, ◌-◌, ◌/◌, ◌%◌}
use Prim.Native.String.{String}
use lib.IntN.{pos, neg_ℤ}
use lib.ListN.{length}
use Rattle.meaning.specs.declared.Refusal.TheVariants.{Events, Clauses, Triples, Bound, Itself, Script}
use Rattle.meaning.specs.Limits.{most_events}
use Rattle.dialogue.specs.Words.{are_digits, value_from, digits_from, unsigned_of}
use Rattle.grammar.specs.Grammar.{role_no, bytes, among, is_a, spelled, blank, gap, parting, opening, closing_as, symbol_as, numeral_as, bound, difference, atom, optional, held, declared, command, set_logic, check_sat, script}
use Rattle.grammar.specs.Place.{ends, live, follow, is_none, choose, after, role_of, place_from}
use Rattle.grammar.specs.Pieces.{join_to, pieces}
use Rattle.script.specs.Words.{same_word, kept_words, one_of, event_of, is_new}
use Rattle.script.specs.Reading.{Answer, going, refused, with_new, with_event, with_bound, with_name, with_clause, with_check, read_piece, read_all, settled, answer_at}

-- so many copies of a text, one after the other
copies : ℕ → String → List ℕ
copies zero t = []
copies (suc k) t = bytes t ++ copies k t

answer_to : List ℕ → Answer
answer_to text = answer_at text 0

-- the answers to texts that follow `(set-logic QF_IDL)` and the declarations of x and y, 59 bytes in all
begun : List ℕ
begun = bytes "(set-logic QF_IDL)(declare-const x Int)(declare-fun y()Int)"

after_both : List String → List Answer
after_both [] = []
after_both (t ∷ ts) = answer_to (begun ++ bytes t) ∷ after_both ts

-- D1's script, as A5 has it, reads as D1
unfoldable pub script-of-d1 : List ℕ
script-of-d1 = bytes "(set-logic QF_IDL)\n(declare-fun e0 () Int)\n(declare-fun e1 () Int)\n(assert (<= (- e0 e1) (- 30)))\n(check-sat)\n"

d1 :
    answer_to script-of-d1
    ≡ going (record { names = bytes "e0" ∷ bytes "e1" ∷ []; new = bytes "e1"; x = 0; y = 1; triples = pos 0 ∷ pos 1 ∷ neg_ℤ (pos 30) ∷ []; counts = 1 ∷ [] })
unfolding script-of-d1 answer_to bytes among is_a role_no spelled blank gap parting opening closing_as symbol_as numeral_as bound difference atom optional held declared command set_logic check_sat script ends live follow is_none choose after role_of place_from join_to pieces same_word kept_words one_of event_of is_new are_digits value_from digits_from unsigned_of with_new with_event with_bound with_name with_clause with_check read_piece read_all settled answer_at
d1 = refl

worked :
    after_both (
    "(assert(or(<=(- x y)100000)(<=(- y x)0)))(assert false)(check-sat);end"
    ∷ "(assert(<=(- x z" ∷ "(assert(<=(- x z\"" ∷ "(assert(<=(- x yy)0))" ∷ "(declare-const x" ∷ "(declare-const assert Int)" ∷ "(declare-const <= Int)"
    ∷ "(declare-fun abcdefghijklmnopqrstuvwxyz012345 () Int)(check-sat)x" ∷ "(declare-fun abcdefghijklmnopqrstuvwxyz0123456 () Int)"
    ∷ "(assert(<=(- x y)100001" ∷ "(assert(<=(- x y)(- 99999999999999999999))x" ∷ "(assert(<=(- x y)100000x" ∷ "(assert(<=(- x y)03" ∷ "(check-sat" ∷ [])
    ≡ going (record { names = bytes "x" ∷ bytes "y" ∷ []; new = bytes "y"; x = 1; y = 0; triples = pos 0 ∷ pos 1 ∷ pos 100000 ∷ pos 1 ∷ pos 0 ∷ pos 0 ∷ []; counts = 2 ∷ 2 ∷ [] })
    ∷ refused Script 74 ∷ refused Script 74 ∷ refused Script 74 ∷ refused Script 74 ∷ refused Script 74 ∷ refused Script 74
    ∷ refused Script 123 ∷ refused Script 72
    ∷ refused Bound 0 ∷ refused Bound 0 ∷ refused Script 82 ∷ refused Script 77 ∷ refused Script 69 ∷ []
unfolding after_both begun answer_to bytes among is_a role_no spelled blank gap parting opening closing_as symbol_as numeral_as bound difference atom optional held declared command set_logic check_sat script ends live follow is_none choose after role_of place_from join_to pieces same_word kept_words one_of event_of is_new are_digits value_from digits_from unsigned_of with_new with_event with_bound with_name with_clause with_check read_piece read_all settled answer_at
worked = refl

-- 12 at the end of the second name, place 0: in the last atom of an or, where the text breaks off, before a bound too large, before what is not
-- allowed; a fault that is complete before it comes first: a name that is not declared, a bound too large
against-itself :
    after_both (
    "(assert(or(<=(- x y)0)(<=(- y y)0)))(check-sat)" ∷ "(assert(<=(- x x" ∷ "(assert(<=(- y y)100001" ∷ "(assert(<=(- y y(" ∷ "(assert(<=(- z z" ∷ "(assert(<=(- x xx" ∷ "(assert(or(<=(- x y)100001)(<=(- x x" ∷ [])
    ≡ refused Itself 0 ∷ refused Itself 0 ∷ refused Itself 0 ∷ refused Itself 0 ∷ refused Script 72 ∷ refused Script 74 ∷ refused Bound 0 ∷ []
unfolding after_both begun answer_to bytes among is_a role_no spelled blank gap parting opening closing_as symbol_as numeral_as bound difference atom optional held declared command set_logic check_sat script ends live follow is_none choose after role_of place_from join_to pieces same_word kept_words one_of event_of is_new are_digits value_from digits_from unsigned_of with_new with_event with_bound with_name with_clause with_check read_piece read_all settled answer_at
against-itself = refl

-- another logic; no event; 33 asserts; 68 alternatives, and 33 asserts with 132, where 2 comes first
sizes :
    map answer_to (
    bytes "(set-logic QF_LIA)"
    ∷ bytes "(set-logic QF_IDL)(assert false)(check-sat)"
    ∷ (begun ++ copies 33 "(assert false)")
    ∷ (begun ++ copies 17 "(assert(or(<=(- x y)0)(<=(- x y)0)(<=(- x y)0)(<=(- x y)0)))")
    ∷ (begun ++ (copies 16 "(assert(or(<=(- x y)0)(<=(- x y)0)(<=(- x y)0)(<=(- x y)0)))" ++ (copies 16 "(assert false)" ++ bytes "(assert(<=(- x y)0))"))) ∷ [])
    ≡ refused Script 14 ∷ refused Events 0 ∷ refused Clauses 0 ∷ refused Triples 0 ∷ refused Clauses 0 ∷ []
unfolding copies begun answer_to bytes among is_a role_no spelled blank gap parting opening closing_as symbol_as numeral_as bound difference atom optional held declared command set_logic check_sat script ends live follow is_none choose after role_of place_from join_to pieces same_word kept_words one_of event_of is_new are_digits value_from digits_from unsigned_of with_new with_event with_bound with_name with_clause with_check read_piece read_all settled answer_at
sizes = refl

-- the name of an event, e00 to e99; those of so many events, from one on; and their declarations
name : ℕ → List ℕ
name e = bytes "e" ++ ((48 + e / 10) ∷ (48 + e % 10) ∷ [])

names_from : ℕ → ℕ → List (List ℕ)
names_from e zero = []
names_from e (suc more) = name e ∷ names_from (suc e) more

declarations : List (List ℕ) → List ℕ
declarations [] = []
declarations (n ∷ more) = bytes "(declare-const " ++ (n ++ (bytes " Int)" ++ declarations more))

-- a text up to so many declarations; and one with a declaration more than there may be, up to its last parenthesis
up_to : ℕ → List ℕ
up_to k = bytes "(set-logic QF_IDL)" ++ declarations (names_from 0 k)

almost : List ℕ
almost = up_to most_events ++ bytes "(declare-const x Int"

-- as many declarations as there may be events are read; one more is refused with 1 at its end, and no sooner
declared-events :
    map answer_to ((up_to most_events ++ bytes "(check-sat)") ∷ up_to (most_events + 1) ∷ almost ∷ [])
    ≡ going (record { names = names_from 0 most_events; new = name (most_events - 1); x = 0; y = 0; triples = []; counts = [] }) ∷ refused Events 0 ∷ refused Script (length almost) ∷ []
unfolding name names_from declarations up_to almost answer_to bytes among is_a role_no spelled blank gap parting opening closing_as symbol_as numeral_as bound difference atom optional held declared command set_logic check_sat script ends live follow is_none choose after role_of place_from join_to pieces same_word kept_words one_of event_of is_new are_digits value_from digits_from unsigned_of with_new with_event with_bound with_name with_clause with_check read_piece read_all settled answer_at
declared-events = refl

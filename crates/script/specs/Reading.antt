-- What a text says: piece by piece, the faults of names, bounds and sizes, and the problem that is read. Definitions only.
-- "The fault complete first in the text is the answer (a name's at its last byte)": a piece's fault is complete at the piece's last byte,
-- and all pieces lie before the byte at which no continuation is allowed. So: the first piece with a fault, or else the grammar's answer.
use Rattle.std.specs.Prelude.{Bool, true, false, not, cond, ◌&&◌, List, [], ◌∷◌, ◌++◌, ℕ, ◌*◌, ◌/◌, leb, eqb, ℤ, pos, neg_ℤ, length, drop}
use Rattle.std.specs.Prelude.{Option as Spelt, None, Some}
use Rattle.std.proofs.Math.Option.{Option, none, some}
use Rattle.meaning.specs.Limits.{most_events, most_clauses, most_alternatives, most_bound}
use Rattle.meaning.specs.declared.Refusal.{Refusal}
use Rattle.meaning.specs.declared.Refusal.TheVariants.{Events, Clauses, Triples, Bound, Itself, Script}
use Rattle.dialogue.specs.Words.{unsigned_of}
use Rattle.script.specs.declared.Refused.{Refused}
use Rattle.grammar.specs.Grammar.{Role, other, new_name, first_name, second_name, bound_digit, negated_digit, declaration_end, assert_end, check_end, script}
use Rattle.grammar.specs.Place.{place_from}
use Rattle.grammar.specs.Pieces.{Piece, pieces}
use Rattle.script.specs.Words.{event_of, is_declared, is_new}

-- what was read so far: the names declared, the name of the declaration that is open, the events of the atom that is open, and the alternatives
-- and clauses as 01 has them lent
pub record Read : Type 0 where
  pub names : List (List ℕ)
  pub new : List ℕ
  pub x : ℕ
  pub y : ℕ
  pub triples : List ℤ
  pub counts : List ℕ

-- what is read, or the refusal and its place ("only 20 carries a place")
pub data Answer : Type 0 where
  going : Read → Answer
  refused : Refusal → ℕ → Answer

-- a refusal without a place
abbrev pub placeless : Refusal → Refused
placeless e = record { refusal = e; place = 0 }

abbrev pub unless : Bool → Refusal → ℕ → Read → Answer
unless ok e place r = cond ok (going r) (refused e place)

-- a declaration's name
unfoldable pub with_new : ℕ → List ℕ → Read → Answer
with_new from w r = unless (is_new r.names w) Script from (record { names = r.names; new = w; x = r.x; y = r.y; triples = r.triples; counts = r.counts })

-- the names of an atom: the first is x, the second y
abbrev pub found : Bool → ℕ → Read → Read
found false event r = record { names = r.names; new = r.new; x = event; y = r.y; triples = r.triples; counts = r.counts }
found true event r = record { names = r.names; new = r.new; x = r.x; y = event; triples = r.triples; counts = r.counts }

-- the second is the first again: 12, "at the end of the second name" (A6)
abbrev pub is_again : Bool → ℕ → ℕ → Bool
is_again second x event = second && eqb event x

unfoldable pub with_event : Bool → ℕ → List ℕ → Read → Answer
with_event second from w r =
    let event = event_of r.names w in
    cond (is_declared r.names w) (unless (not (is_again second r.x event)) Itself 0 (found second event r)) (refused Script from)

-- a bound's value, by its sign
abbrev pub signed : Bool → ℕ → ℤ
signed false v = pos v
signed true v = neg_ℤ (pos v)

-- its bound, with which the alternative is whole: "6 at the last digit of a bound too large, whatever its digits"
unfoldable pub with_bound : Bool → Spelt ℕ → Read → Answer
with_bound negated None r = refused Bound 0
with_bound negated (Some v) r =
    going (record { names = r.names; new = r.new; x = r.x; y = r.y; triples = r.triples ++ (pos r.x ∷ pos r.y ∷ signed negated v ∷ []); counts = r.counts })

-- the end of a declaration: "1 at the end of one declaration too many"
unfoldable pub with_name : Read → Answer
with_name r =
    let names = r.names ++ (r.new ∷ []) in
    unless (leb (length names) most_events) Events 0 (record { names = names; new = r.new; x = r.x; y = r.y; triples = r.triples; counts = r.counts })

-- the end of an assert: "2 and 3 at the end of the assert that is, or holds, one too many, 2 first"
unfoldable pub with_clause : Read → Answer
with_clause r =
    let counts = r.counts ++ (length r.triples / 3 ∷ []) in
    cond (leb (length counts) most_clauses)
    (unless (leb (length r.triples) (3 * most_alternatives)) Triples 0 (record { names = r.names; new = r.new; x = r.x; y = r.y; triples = r.triples; counts = counts }))
    (refused Clauses 0)

-- the end of check-sat: 1 "with no event"
unfoldable pub with_check : Read → Answer
with_check r = unless (leb 1 (length r.names)) Events 0 r

-- a piece of each role
unfoldable pub read_piece : Role → ℕ → List ℕ → Read → Answer
read_piece other from w r = going r
read_piece new_name from w r = with_new from w r
read_piece first_name from w r = with_event false from w r
read_piece second_name from w r = with_event true from w r
read_piece bound_digit from w r = with_bound false (unsigned_of most_bound w) r
read_piece negated_digit from w r = with_bound true (unsigned_of most_bound w) r
read_piece declaration_end from w r = with_name r
read_piece assert_end from w r = with_clause r
read_piece check_end from w r = with_check r

-- all of them in order, as far as there is no fault
abbrev pub and_then : Answer → (Read → Answer) → Answer
and_then (going r) f = f r
and_then (refused e place) f = refused e place

unfoldable pub read_all : List Piece → Read → Answer
read_all [] r = going r
read_all (p ∷ ps) r = and_then (read_piece p.role p.from p.word r) (λ q. read_all ps q)

-- without a piece's fault, the grammar's answer
unfoldable pub settled : Option ℕ → Answer → Answer
settled none a = a
settled (some place) a = and_then a (λ r. refused Script place)

abbrev pub nothing_read : Read
nothing_read = record { names = []; new = []; x = 0; y = 0; triples = []; counts = [] }

-- the answer to the script that begins at a place of a text
unfoldable pub answer_at : List ℕ → ℕ → Answer
answer_at text at = settled (place_from at script (drop at text)) (read_all (pieces at script (drop at text)) nothing_read)

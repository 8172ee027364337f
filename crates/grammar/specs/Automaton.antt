-- The automaton's table, and what is read by it: a step, and a piece. Definitions, and that a table has one proof at most, as a ghost field must.
-- The table has the class of each byte, and then a row for each state: the next state for each class, the one role besides `other` that a
-- byte may have there, and 1 where the text may end there.
use Rattle.std.specs.Prelude.{◌≡◌, Bool, true, false, cond, List, [], ◌∷◌, ℕ, ◌+◌, ◌*◌, ◌≤◌, ◌<◌, leb, eqb, length, get_or, drop, Option, Some, None}
use Rattle.std.specs.Coded.{Coded-set, coded_ℕ}
use Rattle.std.proofs.Math.Option.{some}
use Rattle.std.proofs.Math.Seq.{slice}
use Rattle.std.proofs.Props.{props}
use Rattle.grammar.specs.declared.automaton.Move.{Move}
use Rattle.grammar.specs.declared.pieces.Part.{Part}
use Rattle.grammar.specs.Grammar.{kinds-apart, roles-apart, role_no, Grammar, grammars-apart}
use Rattle.grammar.specs.Roles.{meant}
use Rattle.grammar.specs.Place.{ends, live, after, role_of, place_from}
use Rattle.grammar.specs.Pieces.{pieces}
use Rattle.grammar.specs.States.{grammar_of}

-- ---- the table
-- classes of bytes, and where a row has its role and whether the text may end
abbrev pub classes : ℕ
classes = 34

abbrev pub role_column : ℕ
role_column = classes

abbrev pub end_column : ℕ
end_column = classes + 1

abbrev pub row_width : ℕ
row_width = classes + 2

abbrev pub class_of : List ℕ → ℕ → ℕ
class_of t b = get_or t b 0

abbrev pub entry : List ℕ → ℕ → ℕ → ℕ
entry t s column = get_or t (256 + s * row_width + column) 0

-- the role of a byte of a class at a state that has the role r: ends are `)`, of class 5; digits have classes 6 and 7; a symbol's bytes have 6 and more
unfoldable pub role_in : ℕ → ℕ → ℕ
role_in r c = cond (leb 6 r) (cond (eqb c 5) r 0) (cond (leb 6 c) (cond (leb 8 c) (cond (leb 4 r) 0 r) r) 0)

-- the byte b leads from the state s to the state t, 0 where it is refused, and else has the role of number r
pub record Steps (s b t r : ℕ) : Type 0 where
  pub leads : grammar_of t ≡ after b (grammar_of s)
  pub refuses : t ≡ 0 → live (after b (grammar_of s)) ≡ false
  pub goes_on : (t ≡ 0 → ⊥) → live (after b (grammar_of s)) ≡ true
  pub role : (t ≡ 0 → ⊥) → r ≡ role_no (role_of b (grammar_of s))

-- 1 where the text may end
abbrev pub end_no : Bool → ℕ
end_no true = 1
end_no false = 0

-- what the table says at each state and byte is so
pub record IsTable (t : List ℕ) : Type 0 where
  pub small : (b : ℕ) → b < 256 → class_of t b < classes
  pub steps : (s b : ℕ) → s < 256 → b < 256 → Steps s b (entry t s (class_of t b)) (role_in (entry t s role_column) (class_of t b))
  pub ending : (s : ℕ) → s < 256 → entry t s end_column ≡ end_no (ends (grammar_of s))

-- of two grammars' being equal there is one proof at most, and so of a list's being the table
Grammar-set : IsSet Grammar
Grammar-set = grammars-apart roles-apart (kinds-apart (Coded-set coded_ℕ))

pub IsTable-prop : (t : List ℕ) → IsProp (IsTable t)
IsTable-prop t = Prim.hlevel (Grammar-set, props)

-- ---- what is read by it
-- where the byte b leads from the state s: None where it is refused
abbrev pub Moves : ℕ → ℕ → Option Move → Type 0
Moves s b None = Steps s b 0 0
Moves s b (Some m) = (m.to ≡ 0 → ⊥) × Steps s b m.to (role_no (meant m.role))

-- from the place `at` on, read at a state, there is no piece: the text ends, or its next byte is refused
pub record NoPiece (text : List ℕ) (at state : ℕ) : Type 0 where
  pub no_more : pieces at (grammar_of state) (drop at text) ≡ []
  pub stuck : at < length text → place_from at (grammar_of state) (drop at text) ≡ some at

-- the piece there: what follows it is read from its end on, at its state
pub record IsPiece (text : List ℕ) (at state : ℕ) (p : Part) : Type 0 where
  pub onward : at < p.to
  pub within : p.to ≤ length text
  pub same_place : place_from at (grammar_of state) (drop at text) ≡ place_from p.to (grammar_of p.state) (drop p.to text)
  pub the-piece : pieces at (grammar_of state) (drop at text) ≡ record { role = meant p.role; from = at; word = slice at p.to text } ∷ pieces p.to (grammar_of p.state) (drop p.to text)

-- the piece from the place `at` on, read at a state, if there is one
abbrev pub PieceAt : List ℕ → ℕ → ℕ → Option Part → Type 0
PieceAt text at state None = NoPiece text at state
PieceAt text at state (Some p) = IsPiece text at state p

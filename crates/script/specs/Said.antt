-- What the asserts of a text say: a clause for each, in their order, over the names of the whole script. Faults are left to `Reading`. Definitions only.
use Rattle.std.specs.Prelude.{Bool, true, false, List, [], ◌∷◌, ◌++◌, ℕ, suc, Option, None, Some}
use Rattle.meaning.specs.Limits.{most_bound}
use Rattle.meaning.specs.Problem.{Clause}
use Rattle.dialogue.specs.Words.{unsigned_of}
use Rattle.grammar.specs.Grammar.{Role, other, new_name, first_name, second_name, bound_digit, negated_digit, declaration_end, assert_end, check_end}
use Rattle.grammar.specs.Pieces.{Piece}
use Rattle.script.specs.Words.{event_of}
use Rattle.script.specs.Reading.{signed}

-- what was said so far: the events of the atom that is open, how many alternatives there are, those of the assert that is open, and a clause for
-- each assert that has ended
pub record Said : Type 0 where
  pub x : ℕ
  pub y : ℕ
  pub many : ℕ
  pub clause : Clause
  pub clauses : List Clause

abbrev pub nothing_said : Said
nothing_said = record { x = 0; y = 0; many = 0; clause = []; clauses = [] }

-- with its bound an atom is an alternative of the open assert, numbered by how many there are before it
unfoldable pub say_bound : Bool → Option ℕ → Said → Said
say_bound negated None s = s
say_bound negated (Some v) s =
    record { x = s.x; y = s.y; many = suc s.many; clause = s.clause ++ (record { no = s.many; x = s.x; y = s.y; c = signed negated v } ∷ []); clauses = s.clauses }

-- a piece of each role: names, bounds and the ends of asserts say something
unfoldable pub say_piece : List (List ℕ) → Role → List ℕ → Said → Said
say_piece names first_name w s = record { x = event_of names w; y = s.y; many = s.many; clause = s.clause; clauses = s.clauses }
say_piece names second_name w s = record { x = s.x; y = event_of names w; many = s.many; clause = s.clause; clauses = s.clauses }
say_piece names bound_digit w s = say_bound false (unsigned_of most_bound w) s
say_piece names negated_digit w s = say_bound true (unsigned_of most_bound w) s
say_piece names assert_end w s = record { x = s.x; y = s.y; many = s.many; clause = []; clauses = s.clauses ++ (s.clause ∷ []) }
say_piece names other w s = s
say_piece names new_name w s = s
say_piece names declaration_end w s = s
say_piece names check_end w s = s

-- all of them in order
unfoldable pub say_all : List (List ℕ) → List Piece → Said → Said
say_all names [] s = s
say_all names (p ∷ ps) s = say_all names ps (say_piece names p.role p.word s)

-- the clauses that the pieces of a text say
abbrev pub clauses_said : List (List ℕ) → List Piece → List Clause
clauses_said names ps = (say_all names ps nothing_said).clauses

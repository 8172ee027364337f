-- The words that are no names, and names among those declared. Definitions only.
use Rattle.std.specs.Prelude.{Bool, true, false, ◌&&◌, ◌||◌, not, cond, List, [], ◌∷◌, ℕ, suc, leb, ltb, eqb, length}
use Prim.Native.String.{String}
use Rattle.grammar.specs.Grammar.{bytes}

-- the two words are the same
unfoldable pub same_word : List ℕ → List ℕ → Bool
same_word [] [] = true
same_word [] (b ∷ v) = false
same_word (a ∷ w) [] = false
same_word (a ∷ w) (b ∷ v) = eqb a b && same_word w v

-- "an SMT-LIB reserved word or a word of this subset": SMT-LIB 2.6, section 3.1, has those up to "set-option", the commands among them
unfoldable pub kept_words : List String
kept_words =
    "!" ∷ "_" ∷ "as" ∷ "BINARY" ∷ "DECIMAL" ∷ "exists" ∷ "HEXADECIMAL" ∷ "forall" ∷ "let" ∷ "match" ∷ "NUMERAL" ∷ "par" ∷ "STRING"
    ∷ "assert" ∷ "check-sat" ∷ "check-sat-assuming" ∷ "declare-const" ∷ "declare-datatype" ∷ "declare-datatypes" ∷ "declare-fun" ∷ "declare-sort"
    ∷ "define-fun" ∷ "define-fun-rec" ∷ "define-funs-rec" ∷ "define-sort" ∷ "echo" ∷ "exit" ∷ "get-assertions" ∷ "get-assignment" ∷ "get-info"
    ∷ "get-model" ∷ "get-option" ∷ "get-proof" ∷ "get-unsat-assumptions" ∷ "get-unsat-core" ∷ "get-value" ∷ "pop" ∷ "push" ∷ "reset"
    ∷ "reset-assertions" ∷ "set-info" ∷ "set-logic" ∷ "set-option"
    ∷ "QF_IDL" ∷ "Int" ∷ "false" ∷ "or" ∷ "<=" ∷ "-" ∷ []

unfoldable pub one_of : List String → List ℕ → Bool
one_of [] w = false
one_of (s ∷ more) w = same_word (bytes s) w || one_of more w

abbrev pub is_kept : List ℕ → Bool
is_kept w = one_of kept_words w

-- how many of the names stand before the word among them: all, where it is none of them. "Declaration order numbers the events"
unfoldable pub event_of : List (List ℕ) → List ℕ → ℕ
event_of [] w = 0
event_of (n ∷ names) w = let r = suc (event_of names w) in cond (same_word n w) 0 r

-- the word is one of the names
abbrev pub is_declared : List (List ℕ) → List ℕ → Bool
is_declared names w = ltb (event_of names w) (length names)

-- "names are simple symbols of up to 32 characters"
abbrev pub most_characters : ℕ
most_characters = 32

-- the word may be declared: not "too long, …, declared twice, an SMT-LIB reserved word or a word of this subset"
unfoldable pub is_new : List (List ℕ) → List ℕ → Bool
is_new names w = leb (length w) most_characters && (not (is_kept w) && not (is_declared names w))

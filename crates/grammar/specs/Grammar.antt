-- The subset of SMT-LIB 2 that A1 reads, as a grammar over bytes. Definitions only.
-- Sizes and which names exist are no part of it: any simple symbol may stand where a name stands.
use Rattle.std.specs.Prelude.{◌≡◌, ◌⊎◌, Bool, false, ◌&&◌, ◌||◌, not, List, [], ◌∷◌, ◌++◌, ℕ, T, leb, eqb}
use Prim.Native.Char.{code}
use Prim.Native.String.{String, [] as no_text, ◌∷◌ as ◌then-text◌}

-- ---- bytes
-- the bytes of a quoted word
unfoldable pub bytes : String → List ℕ
bytes no_text = []
bytes (c then-text w) = code c ∷ bytes w

-- the byte is one of these
unfoldable pub among : List ℕ → ℕ → Bool
among [] b = false
among (a ∷ more) b = eqb b a || among more b

-- the kinds of bytes that the grammar names
pub data Kind : Type 0 where
  exactly : ℕ → Kind
  space : Kind
  line_end : Kind
  in_comment : Kind
  symbol_first : Kind
  symbol_byte : Kind
  digit : Kind
  leading_digit : Kind
  deriving IsSet as kinds-apart

abbrev pub is_digit : ℕ → Bool
is_digit b = leb 48 b && leb b 57

abbrev pub is_letter : ℕ → Bool
is_letter b = (leb 65 b && leb b 90) || (leb 97 b && leb b 122)

-- "~ ! @ $ % ^ & * _ - + = < > . ? /", SMT-LIB 2.6
abbrev pub is_mark : ℕ → Bool
is_mark b = among (bytes "~!@$%^&*_-+=<>.?/") b

unfoldable pub is_a : Kind → ℕ → Bool
is_a (exactly a) b = eqb b a
is_a space b = among (9 ∷ 10 ∷ 13 ∷ 32 ∷ []) b
is_a line_end b = among (10 ∷ 13 ∷ []) b
is_a in_comment b = leb b 255 && not (among (10 ∷ 13 ∷ []) b)
is_a symbol_first b = is_letter b || is_mark b
is_a symbol_byte b = is_digit b || is_letter b || is_mark b
is_a digit b = is_digit b
is_a leading_digit b = leb 49 b && leb b 57

-- ---- grammars, and the texts that they allow
-- what a byte is to the reader, by the place of the grammar that takes it
pub data Role : Type 0 where
  other : Role
  new_name : Role
  first_name : Role
  second_name : Role
  bound_digit : Role
  negated_digit : Role
  declaration_end : Role
  assert_end : Role
  check_end : Role
  deriving IsSet as roles-apart

-- its number
unfoldable pub role_no : Role → ℕ
role_no other = 0
role_no new_name = 1
role_no first_name = 2
role_no second_name = 3
role_no bound_digit = 4
role_no negated_digit = 5
role_no declaration_end = 6
role_no assert_end = 7
role_no check_end = 8

pub data Grammar : Type 0 where
  none : Grammar
  empty : Grammar
  one : Role → Kind → Grammar
  ◌then◌ : Grammar → Grammar → Grammar
  ◌either◌ : Grammar → Grammar → Grammar
  many : Grammar → Grammar
  deriving IsSet as grammars-apart

infixr 5 ◌then◌
infixr 4 ◌either◌
unfoldable pub joined : List (List ℕ) → List ℕ
joined [] = []
joined (w ∷ ws) = w ++ joined ws

abbrev pub All : (List ℕ → Type 0) → List (List ℕ) → Type 0
All P [] = Unit {0}
All P (w ∷ ws) = P w × All P ws

-- the text is one that the grammar allows
abbrev pub Allows : Grammar → List ℕ → Type 0
Allows none s = ⊥
Allows empty s = s ≡ []
Allows (one r k) s = (b : ℕ) × T (is_a k b) × (s ≡ b ∷ [])
Allows (g then h) s = (u : List ℕ) × (v : List ℕ) × (s ≡ u ++ v) × Allows g u × Allows h v
Allows (g either h) s = Allows g s ⊎ Allows h s
Allows (many g) s = (ws : List (List ℕ)) × (s ≡ joined ws) × All (Allows g) ws

-- ---- A1's subset
abbrev pub byte : Kind → Grammar
byte k = one other k

-- these bytes, one after the other
unfoldable pub spelled : List ℕ → Grammar
spelled [] = empty
spelled (b ∷ []) = byte (exactly b)
spelled (b ∷ (a ∷ w)) = byte (exactly b) then spelled (a ∷ w)

abbrev pub word : String → Grammar
word w = spelled (bytes w)

-- "white space: tab, line feed, carriage return, space; line feed and carriage return end a comment; a comment may hold any other byte"
unfoldable pub blank : Grammar
blank = byte space either word ";" then many (byte in_comment) then byte line_end

unfoldable pub gap : Grammar
gap = many blank

-- where two symbols or numerals would run together
unfoldable pub parting : Grammar
parting = blank then gap

-- parentheses, with what may stand before them
unfoldable pub opening : Grammar
opening = gap then word "("

unfoldable pub closing_as : Role → Grammar
closing_as r = gap then one r (exactly 41)

abbrev pub closing : Grammar
closing = closing_as other

-- a simple symbol
unfoldable pub symbol_as : Role → Grammar
symbol_as r = one r symbol_first then many (one r symbol_byte)

-- "numerals have no leading zeros"
unfoldable pub numeral_as : Role → Grammar
numeral_as r = one r (exactly 48) either one r leading_digit then many (one r digit)

-- "N a numeral or (- numeral)"
unfoldable pub bound : Grammar
bound =
    gap then numeral_as bound_digit
    either opening then gap then word "-" then parting then numeral_as negated_digit then closing

-- "(- x y)"
unfoldable pub difference : Grammar
difference = opening then gap then word "-" then parting then symbol_as first_name then parting then symbol_as second_name then closing

-- "an atom is (<= (- x y) N)"
unfoldable pub atom : Grammar
atom = opening then gap then word "<=" then difference then bound then closing

unfoldable pub optional : Grammar → Grammar
optional g = empty either g

-- "an assert holds false, one atom, or an or of two to four atoms"
unfoldable pub held : Grammar
held =
    parting then word "false"
    either atom
    either opening then gap then word "or" then atom then atom then optional (atom then optional atom) then closing

-- "declare-fun or declare-const of Int"
unfoldable pub declared : Grammar
declared =
    word "declare-fun" then parting then symbol_as new_name then opening then closing then gap then word "Int"
    either word "declare-const" then parting then symbol_as new_name then parting then word "Int"

unfoldable pub command : Grammar
command = opening then gap then (declared then closing_as declaration_end either word "assert" then held then closing_as assert_end)

unfoldable pub set_logic : Grammar
set_logic = opening then gap then word "set-logic" then parting then word "QF_IDL" then closing

unfoldable pub check_sat : Grammar
check_sat = opening then gap then word "check-sat" then closing_as check_end

-- "set-logic QF_IDL comes first, once; check-sat comes last, once"; "a comment may end with the text after check-sat"
unfoldable pub script : Grammar
script = set_logic then many command then check_sat then gap then optional (word ";" then many (byte in_comment))

-- Words of a line and the numbers that they spell. A line is words parted by single spaces.
-- Assumes nothing.
use Rattle.std.specs.Prelude.{ℕ, ◌+◌, ◌*◌, ◌-◌, Bool, true, ◌&&◌, cond, List, [], ◌∷◌, length, get_or, drop, leb, eqb, ℤ, pos, neg_ℤ, Option, None, Some, option_map, ◌≡◌, refl}

-- the bytes before the first `stop`, or all of them
unfoldable pub before : ℕ → List ℕ → List ℕ
before stop [] = []
before stop (b ∷ s) = cond (eqb b stop) [] (b ∷ before stop s)

-- the place of the first `stop` from `at` on, or the end
abbrev pub place_of : ℕ → List ℕ → ℕ → ℕ
place_of stop s at = at + length (before stop (drop at s))

-- the word that a space at `at` leads; none, which is no number, where no space stands there
unfoldable pub word_at : List ℕ → ℕ → List ℕ
word_at s at = cond (eqb (get_or s at 0) 32) (before 32 (drop (at + 1) s)) []

-- the place after that word
abbrev pub after_word : List ℕ → ℕ → ℕ
after_word s at = at + 1 + length (word_at s at)

-- a value and the place after its word
abbrev pub with_place : {A : Type 0} → ℕ → Option A → Option (A × ℕ)
with_place place o = option_map (λ v. (v, place)) o

-- whether every byte is one of the digits 0 to 9
unfoldable pub are_digits : List ℕ → Bool
are_digits [] = true
are_digits (b ∷ w) = leb 48 b && (leb b 57 && are_digits w)

-- the value of the digits w where those before them have the value v
unfoldable pub value_from : ℕ → List ℕ → ℕ
value_from v [] = v
value_from v (b ∷ w) = value_from (v * 10 + (b - 48)) w

-- that value, if they are digits and it is at most `most`
unfoldable pub digits_from : ℕ → ℕ → List ℕ → Option ℕ
digits_from most v w = cond (are_digits w && leb (value_from v w) most) (Some (value_from v w)) None

-- an unsigned number is one or more digits, leading zeros among them
unfoldable pub unsigned_of : ℕ → List ℕ → Option ℕ
unsigned_of most [] = None
unsigned_of most (b ∷ w) = digits_from most 0 (b ∷ w)

-- the number of ℤ, or its negative
abbrev pub positive : Option ℕ → Option ℤ
positive None = None
positive (Some n) = Some (pos n)

abbrev pub negative : Option ℕ → Option ℤ
negative None = None
negative (Some n) = Some (neg_ℤ (pos n))

-- a signed 32-bit number is the same, with one - before it allowed
unfoldable pub signed_of : List ℕ → Option ℤ
signed_of [] = None
signed_of (b ∷ w) = cond (eqb b 45) (negative (unsigned_of 0x80000000 w)) (positive (unsigned_of 0x7fffffff (b ∷ w)))

-- no word of no bytes is a number
pub unsigned_empty : (most : ℕ) → unsigned_of most [] ≡ None
unfolding unsigned_of
unsigned_empty most = refl

pub signed_empty : signed_of [] ≡ None
unfolding signed_of
signed_empty = refl

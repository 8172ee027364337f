-- What a line asks for: numbers and counted lists, each number led by a space, and what the lent memory holds once they are read. A count that
-- exceeds the memory lent for its list is malformed. Definitions only.
use Rattle.std.specs.Prelude.{ℕ, cond, List, ◌++◌, leb, eqb, ℤ, length, take, drop, Option, None, Some, option_map, unwrap_or}
use Rattle.dialogue.specs.Words.{word_at, after_word, with_place, unsigned_of, signed_of}
use Rattle.dialogue.specs.Lists.{after_list, list_from}
use Rattle.exchange.specs.declared.requests.Lists.{Lists}
use Rattle.exchange.specs.declared.requests.Head.{Head}
use Rattle.exchange.specs.declared.requests.Fact.{Fact}
use Rattle.exchange.specs.declared.requests.Asked.{Asked}

-- what follows from something read and the place after it
abbrev pub read_on : {A B : Type 0} → Option (A × ℕ) → (A → ℕ → Option B) → Option B
read_on None f = None
read_on (Some r) f = f r.0 r.1

-- an unsigned 32-bit number
abbrev pub number : List ℕ → Option ℕ
number = unsigned_of 0xffffffff

-- a number and the place after it, at `at`
abbrev pub number_at : List ℕ → ℕ → Option (ℕ × ℕ)
number_at s at = with_place (after_word s at) (number (word_at s at))

-- a count at `at`, `most` at most
abbrev pub count_at : List ℕ → ℕ → ℕ → Option (ℕ × ℕ)
count_at s at most = read_on (number_at s at) (λ value place. cond (leb value most) (Some (value, place)) None)

module _ {A : Type 0} (read : List ℕ → Option A) (s : List ℕ) where
  -- a count and so many numbers, read into the front of `old`
  abbrev pub list_at : ℕ → List A → Option (ℕ × ℕ)
  list_at at old = read_on (count_at s at (length old)) (λ count place. option_map (λ end. (count, end)) (after_list read s place (take count old)))

  -- what the memory then holds
  abbrev pub filled_at : ℕ → List A → List A
  filled_at at old = unwrap_or (read_on (count_at s at (length old)) (λ count place. Some (list_from read s place (take count old) ++ drop count old))) old

-- a problem's triples and clause counts
abbrev pub lists_at : List ℕ → ℕ → List ℤ → List ℕ → Option (Lists × ℕ)
lists_at s at triples counts =
    read_on (list_at signed_of s at triples)
    (λ k place. read_on (list_at number s place counts) (λ m end. Some (record { triples = k; counts = m }, end)))

-- the clause counts stand after the triples
abbrev pub counts_at : List ℕ → ℕ → List ℤ → List ℕ → List ℕ
counts_at s at triples counts = unwrap_or (read_on (list_at signed_of s at triples) (λ k place. Some (filled_at number s place counts))) counts

-- what a plan's request says before the lists: the events, the allowance, and how many elements are lent of each kind
abbrev pub head_at : List ℕ → ℕ → ℕ → ℕ → ℕ → Option (Head × ℕ)
head_at s at times picks reasons =
    read_on (number_at s at)
    (λ n a. read_on (number_at s a)
    (λ v b. read_on (count_at s b times)
    (λ t c. read_on (count_at s c picks)
    (λ p d. read_on (count_at s d reasons)
    (λ r end. Some (record { n = n; allowance = v; timetable = t; picks = p; reasons = r }, end))))))

-- ---- a day's request
-- 0, or 1 for the opposite
abbrev pub turned_at : List ℕ → ℕ → Option (ℕ × ℕ)
turned_at s at = with_place (after_word s at) (unsigned_of 1 (word_at s at))

-- a signed number and the place after it
abbrev pub signed_at : List ℕ → ℕ → Option (ℤ × ℕ)
signed_at s at = with_place (after_word s at) (signed_of (word_at s at))

-- a fact's two events and its bound
abbrev pub fact_at : List ℕ → ℕ → Option (Fact × ℕ)
fact_at s at =
    read_on (signed_at s at)
    (λ x a. read_on (signed_at s a)
    (λ y b. read_on (signed_at s b) (λ c end. Some (record { x = x; y = y; c = c }, end))))

-- what it says before the entries: the events, whether the opposite is meant, the fact, and how many elements are lent
abbrev pub asked_at : List ℕ → ℕ → ℕ → Option (Asked × ℕ)
asked_at s at times =
    read_on (number_at s at)
    (λ n a. read_on (turned_at s a)
    (λ o b. read_on (fact_at s b)
    (λ f c. read_on (count_at s c times)
    (λ t end. Some (record { n = n; opposite = eqb o 1; fact = f; timetable = t }, end)))))

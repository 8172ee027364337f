-- The plain list, which decides: selections, their dictionary order and rank, which of them hold, and the latest timetable. Definitions only.
use Rattle.std.specs.Prelude.{◌≡◌, ◌⊎◌, List, [], ◌∷◌, ◌++◌, map, ℕ, zero, suc, ◌+◌, ◌*◌, ◌<◌, ℤ, pos, ◌≤ℤ◌, length, get_or}
use Rattle.meaning.specs.Problem.{Alternative, Clause, Timetable, Satisfies, Sound}

-- "a selection takes one alternative from each clause, by position 0 to 3"
abbrev pub Selection : List Clause → List ℕ → Type 0
Selection [] [] = Unit {0}
Selection [] (i ∷ p) = ⊥
Selection (c ∷ cs) [] = ⊥
Selection (c ∷ cs) (i ∷ p) = (i < length c) × Selection cs p

-- what `get_or` gives past the end of a clause
pub nowhere : Alternative
nowhere = record { no = 0; x = 0; y = 0; c = pos 0 }

-- the alternatives of a selection
abbrev pub chosen : List Clause → List ℕ → List Alternative
chosen [] p = []
chosen (c ∷ cs) [] = []
chosen (c ∷ cs) (i ∷ p) = get_or c i nowhere ∷ chosen cs p

-- "a selection holds if some integer timetable satisfies all its alternatives"
abbrev pub Holds : List Clause → List ℕ → Type 0
Holds cs p = Sound (chosen cs p)

-- "dictionary order, first clause foremost"
infix 50 ◌≺◌
abbrev pub ◌≺◌ : List ℕ → List ℕ → Type 0
[] ≺ q = ⊥
(i ∷ p) ≺ [] = ⊥
(i ∷ p) ≺ (j ∷ q) = (i < j) ⊎ ((i ≡ j) × (p ≺ q))

-- every selection, in dictionary order: those that begin with position i, i + 1 and so on of n positions, before the rest qs
unfoldable pub begun : ℕ → ℕ → List (List ℕ) → List (List ℕ)
begun i zero qs = []
begun i (suc n) qs = map (λ q. i ∷ q) qs ++ begun (suc i) n qs

unfoldable pub selections : List Clause → List (List ℕ)
selections [] = [] ∷ []
selections (c ∷ cs) = begun 0 (length c) (selections cs)

-- "the product of the clause sizes": how many selections there are
unfoldable pub product : List Clause → ℕ
product [] = 1
product (c ∷ cs) = length c * product cs

-- the dictionary rank of a selection; of a standing, that of the first selection under it
unfoldable pub rank : List Clause → List ℕ → ℕ
rank [] p = 0
rank (c ∷ cs) [] = 0
rank (c ∷ cs) (i ∷ p) = i * product cs + rank cs p

-- the timetable that a list of times is
abbrev pub times_of : List ℤ → Timetable
times_of l e = get_or l e (pos 0)

-- "the one with no time above 0 in which every event is as late as in any other such one", as a list of n times
pub record Latest (n : ℕ) (fs : List Alternative) (l : List ℤ) : Type 0 where
  pub size : length l ≡ n
  pub keeps : Satisfies (times_of l) fs
  pub closing : (e : ℕ) → times_of l e ≤ℤ pos 0
  pub latest : (t : Timetable) → Satisfies t fs → ((e : ℕ) → e < n → t e ≤ℤ pos 0) → (e : ℕ) → e < n → t e ≤ℤ times_of l e

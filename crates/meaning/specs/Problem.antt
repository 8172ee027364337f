-- What a problem is and what keeps it: 01, "What the table is given" and "The plain list, which decides". Definitions only.
use Rattle.std.specs.Prelude.{◌⊎◌, Bool, List, [], ◌∷◌, ℕ, ◌+◌, T, ℤ, neg_ℤ, ◌-ℤ◌}
use Rattle.std.proofs.Math.IntN.{pred_ℤ}
use Rattle.std.specs.Int.Signed.{le_z}
use Rattle.meaning.specs.Limits.{opposite_from}

-- "an alternative (x, y, c) says: time of x − time of y ≤ c", under its number
pub record Alternative : Type 0 where
  pub no : ℕ
  pub x : ℕ
  pub y : ℕ
  pub c : ℤ

-- "the opposite of (x, y, c) is (y, x, −c−1)", under the number that a cycle row has for it
unfoldable pub opposite : Alternative → Alternative
opposite a = record { no = opposite_from + a.no; x = a.y; y = a.x; c = pred_ℤ (neg_ℤ a.c) }

-- "a clause is a list of alternatives"
abbrev pub Clause : Type 0
Clause = List Alternative

-- "times are whole minutes and may be negative": a time for each event
abbrev pub Timetable : Type 0
Timetable = ℕ → ℤ

-- the timetable satisfies the alternative
unfoldable pub satisfied : Timetable → Alternative → Bool
satisfied t a = le_z (t a.x -ℤ t a.y) a.c

-- the timetable satisfies all of them
abbrev pub Satisfies : Timetable → List Alternative → Type 0
Satisfies t [] = Unit {0}
Satisfies t (a ∷ more) = T (satisfied t a) × Satisfies t more

-- some timetable satisfies all of them
abbrev pub Sound : List Alternative → Type 0
Sound fs = (t : Timetable) × Satisfies t fs

-- the timetable satisfies at least one alternative of the clause
abbrev pub Some : Timetable → Clause → Type 0
Some t [] = ⊥
Some t (a ∷ more) = T (satisfied t a) ⊎ Some t more

-- "a problem is kept by a timetable that satisfies at least one alternative in each clause"
abbrev pub Keeps : Timetable → List Clause → Type 0
Keeps t [] = Unit {0}
Keeps t (c ∷ cs) = Some t c × Keeps t cs

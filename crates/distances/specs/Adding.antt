-- The same as a definition that computes, one fact after the other: 02, A8, "adding one alternative updates all distances as in 002"; and the latest timetable, read off
-- a day. That a table so computed is the day of its facts is shown in proofs/Updating and Afresh, that the timetable is 01's in proofs/Timetables. Definitions only.
use Rattle.std.specs.Prelude.{Bool, true, false, cond, List, [], ◌∷◌, ℕ, zero, suc, ℤ, pos, ◌+ℤ◌, eqb}
use Rattle.std.specs.Int.Signed.{le_z}
use Rattle.meaning.specs.Problem.{Alternative, Timetable}
use Rattle.distances.specs.Distances.{Distance, none, far, Table}

-- ---- distances
-- the one is no longer than the other; "none is longest"
unfoldable pub no_longer : Distance → Distance → Bool
no_longer d none = true
no_longer none (far b) = false
no_longer (far a) (far b) = le_z a b

-- one way after another
unfoldable pub and_then : Distance → Distance → Distance
and_then none e = none
and_then (far a) none = none
and_then (far a) (far b) = far (a +ℤ b)

abbrev pub lesser : ℤ → ℤ → ℤ
lesser a b = cond (le_z a b) a b

-- the shorter of two distances
unfoldable pub shorter : Distance → Distance → Distance
shorter none e = e
shorter (far a) none = far a
shorter (far a) (far b) = far (lesser a b)

-- ---- one fact more
-- the way over a fact of bound c
abbrev pub over : Distance → ℤ → Distance → Distance
over d c e = and_then (and_then d (far c)) e

-- the table with one fact more
unfoldable pub added : Alternative → Table → Table
added a d u v = shorter (d u v) (over (d u a.y) a.c (d a.x v))

-- the way back, of distance d, and a fact of bound c make no cycle below 0
abbrev pub closes : Distance → ℤ → Bool
closes d c = no_longer (far (pos 0)) (and_then d (far c))

-- the new fact (x, y, c) fits: the way back leads from x to y
abbrev pub fits : Alternative → Table → Bool
fits a d = closes (d a.x a.y) a.c

-- "the day starts with no facts": each event is 0 from itself, and no other way leads anywhere
unfoldable pub fresh : Table
fresh u v = cond (eqb u v) (far (pos 0)) none

-- worked out afresh, one fact after the other
unfoldable pub afresh : List Alternative → Table
afresh [] = fresh
afresh (a ∷ fs) = added a (afresh fs)

-- ---- the latest timetable
-- a time, or the earlier one that a distance asks for
unfoldable pub nearer : Distance → ℤ → ℤ
nearer none z = z
nearer (far a) z = lesser a z

-- the least of 0 and the first k distances
unfoldable pub soonest : ℕ → (ℕ → Distance) → ℤ
soonest zero f = pos 0
soonest (suc k) f = nearer (f k) (soonest k f)

-- nothing after closing: "the extra source of 001 (weight 0 to every event)" leads on from each event
unfoldable pub latest_by : ℕ → Table → Timetable
latest_by n d v = soonest n (λ u. d u v)

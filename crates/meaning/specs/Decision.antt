-- The decision of the tests, as a definition that computes: rounds from the extra source of 001, in minutes before closing, all events first at closing.
-- That it is true exactly where some timetable satisfies the facts is shown in proofs/Deciding. Definitions only.
use Rattle.std.specs.Prelude.{Bool, true, ◌&&◌, List, [], ◌∷◌, map, ℕ, zero, suc, ◌+◌, ◌-◌, max, leb, ℤ, pos, negsuc, neg_ℤ, get_or, set, replicate}
use Rattle.meaning.specs.Problem.{Alternative}

-- the element of a list of numbers, 0 past its end
abbrev pub at : List ℕ → ℕ → ℕ
at l i = get_or l i 0

-- how many minutes before closing x must lie at the least, with y at s
unfoldable pub ask : ℕ → ℤ → ℕ
ask s (pos k) = s - k
ask s (negsuc k) = suc (s + k)

unfoldable pub raise : List ℕ → Alternative → List ℕ
raise s a = set s a.x (max (at s a.x) (ask (at s a.y) a.c))

unfoldable pub round : List Alternative → List ℕ → List ℕ
round [] s = s
round (a ∷ more) s = round more (raise s a)

unfoldable pub rounds : ℕ → List Alternative → List ℕ → List ℕ
rounds zero fs s = s
rounds (suc n) fs s = rounds n fs (round fs s)

-- the minutes before closing of n events after n rounds
unfoldable pub least : ℕ → List Alternative → List ℕ
least n fs = rounds n fs (replicate n 0)

unfoldable pub settled : List Alternative → List ℕ → Bool
settled [] s = true
settled (a ∷ more) s = leb (ask (at s a.y) a.c) (at s a.x) && settled more s

unfoldable pub sound_by : ℕ → List Alternative → Bool
sound_by n fs = settled fs (least n fs)

-- one more than the largest event that is named
unfoldable pub reach : List Alternative → ℕ
reach [] = 0
reach (a ∷ more) = max (suc a.x) (max (suc a.y) (reach more))

-- whether some timetable satisfies the facts
unfoldable pub sound : List Alternative → Bool
sound fs = sound_by (reach fs) fs

-- the time that lies so many minutes before closing
abbrev pub time_of : ℕ → ℤ
time_of s = neg_ℤ (pos s)

-- the latest timetable of n events, where there is one
unfoldable pub latest_of : ℕ → List Alternative → List ℤ
latest_of n fs = map time_of (least n fs)

-- Worked additions, computed: the facts of D2's plan one after another, the last one again, one that has no timetable with them, an opposite, and what is read off; and a lent table
-- with one detour too short. The program prints the same and more. Assumes nothing.
use mathlib.Core.Path.{◌≡◌, refl}
use mathlib.Core.Bool.{true, false}
use mathlib.Core.List.{List, [], ◌∷◌, ◌++◌}
use Prim.Native.Nat.{ℕ, ◌+◌, ◌*◌, ◌/◌, ◌%◌}
use lib.IntN.{ℤ, pos, neg_ℤ}
use lib.ListN.{get_or, replicate}
use Rattle.meaning.specs.Limits.{most_events}
use Rattle.meaning.specs.Problem.{opposite}
use Rattle.meaning.specs.Screen.{first_failed}
use Rattle.distances.specs.Adding.{no_longer, and_then, shorter, added, fresh, nearer, soonest, latest_by}
use Rattle.standing.specs.declared.Day.{Day}
use Rattle.standing.specs.Entries.{no_entry, said, entry_of, list_of, among, day_with}
use Rattle.standing.specs.Standing.{every, in_range, is_zero, is_none, is_table, table_tests, begun, fresh_day, fact_tests, new_tests, add_refusal, answered, adding, read_refusal, times_read}
use Rattle.standing.specs.Following.{Addition, followed}

-- the entries of a day's first rows and columns
unfoldable shown : ℕ → Day → List ℤ
shown n d = list_of (n * n) (λ k. get_or d.entries (k / n * most_events + k % n) no_entry)

-- one addition after another: the number, and the day as it is shown
unfoldable answers : ℕ → Day → List Addition → List (ℕ × List ℤ)
answers n d [] = []
answers n d (q ∷ qs) =
    let r = adding d q.x q.y q.c q.opposite in
    (r.number, shown n r.day) ∷ answers n r.day qs

abbrev add : ℕ → ℕ → ℤ → Addition
add x y c = record { x = pos x; y = pos y; c = c; opposite = false }

abbrev add-opposite : ℕ → ℕ → ℤ → Addition
add-opposite x y c = record { x = pos x; y = pos y; c = c; opposite = true }

abbrev minus : ℕ → ℤ
minus k = neg_ℤ (pos k)

abbrev row : ℤ → ℤ → ℤ → ℤ → List ℤ
row a b c d = a ∷ b ∷ c ∷ d ∷ []

abbrev — : ℤ
— = no_entry

-- ---- D2
abbrev plan : List Addition
plan = add 2 1 (pos 6) ∷ add 3 0 (minus 5) ∷ add 0 2 (minus 2) ∷ []

-- the day of the three facts
abbrev all_three : List ℤ
all_three = row (pos 0) — — (minus 5) ++ row (pos 4) (pos 0) (pos 6) (minus 1) ++ row (minus 2) — (pos 0) (minus 7) ++ row — — — (pos 0)

d2-followed : answers 4 (fresh_day 4).day (plan ++ (add 0 2 (minus 2) ∷ add 2 0 (pos 1) ∷ add-opposite 1 3 (pos 9) ∷ []))
    ≡ (0, row (pos 0) — — — ++ row — (pos 0) (pos 6) — ++ row — — (pos 0) — ++ row — — — (pos 0))
    ∷ (0, row (pos 0) — — (minus 5) ++ row — (pos 0) (pos 6) — ++ row — — (pos 0) — ++ row — — — (pos 0))
    ∷ (0, all_three)
    ∷ (0, all_three)
    ∷ (13, all_three)
    ∷ (0, row (pos 0) — — (minus 5) ++ row (pos 4) (pos 0) (pos 6) (minus 10) ++ row (minus 2) — (pos 0) (minus 7) ++ row — — — (pos 0))
    ∷ []
unfolding answers shown fresh_day begun day_with list_of among entry_of said fresh first_failed adding answered add_refusal table_tests is_table every in_range is_zero is_none fact_tests new_tests no_longer and_then shorter added opposite
d2-followed = refl

-- D2's own timetable is read off, then 1s
d2-read : times_read (followed (fresh_day 4).day plan) 6 (read_refusal (followed (fresh_day 4).day plan) 6) ≡ minus 2 ∷ pos 0 ∷ pos 0 ∷ minus 7 ∷ pos 1 ∷ pos 1 ∷ []
unfolding followed times_read read_refusal latest_by soonest nearer fresh_day begun day_with list_of among entry_of said fresh first_failed adding answered add_refusal table_tests is_table every in_range is_zero is_none fact_tests new_tests no_longer and_then shorter added opposite
d2-read = refl

-- ---- a lent table: from 0 to 1 in 5, from 1 to 2 in 7, from 0 to 2 as is said
abbrev three : ℤ → Day
three z =
    record {
      n = 3;
      entries =
          (pos 0 ∷ pos 5 ∷ z ∷ [])
          ++ replicate 21 —
          ++ (— ∷ pos 0 ∷ pos 7 ∷ [])
          ++ replicate 21 —
          ++ (— ∷ — ∷ pos 0 ∷ [])
          ++ replicate 525 —;
    }

-- the detour over 1 is shorter than 13, and as long as 12
detour-refused : (adding (three (pos 13)) (pos 2) (pos 1) (pos 6) false ≡ record { number = 16; day = three (pos 13) }) × ((adding (three (pos 12)) (pos 2) (pos 1) (pos 6) false).number ≡ 0)
unfolding day_with list_of among entry_of said first_failed adding answered add_refusal table_tests is_table every in_range is_zero is_none fact_tests new_tests no_longer and_then shorter added opposite
detour-refused = (refl, refl)

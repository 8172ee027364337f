-- The three operations of 02, A8, on a standing day: their refusals in order, and every field and element that they leave. Definitions only.
use Rattle.std.specs.Prelude.{Bool, true, false, cond, ◌&&◌, ◌||◌, List, [], ◌∷◌, ◌++◌, ℕ, zero, suc, ◌-◌, leb, ltb, eqb, ℤ, nat_abs, replicate}
use Rattle.meaning.specs.Limits.{most_events, no_time}
use Rattle.meaning.specs.Problem.{Alternative, opposite}
use Rattle.meaning.specs.Screen.{is_size, are_events, are_apart, is_bound, Test, first_failed}
use Rattle.problem.specs.Arcs.{farthest}
use Rattle.distances.specs.Distances.{Distance, none, far, Table}
use Rattle.distances.specs.Adding.{no_longer, and_then, added, fits, fresh, latest_by}
use Rattle.standing.specs.declared.Day.{Day}
use Rattle.standing.specs.declared.Answered.{Answered}
use Rattle.standing.specs.Entries.{table_of, list_of, day_with}

-- ---- which table is a day
-- every number below k passes
unfoldable pub every : ℕ → (ℕ → Bool) → Bool
every zero f = true
every (suc k) f = f k && every k f

abbrev pub every_pair : ℕ → (ℕ → ℕ → Bool) → Bool
every_pair n f = every n (λ u. every n (λ v. f u v))

-- none, or within ±2,300,023
unfoldable pub in_range : Distance → Bool
in_range none = true
in_range (far z) = leb (nat_abs z) farthest

unfoldable pub is_zero : Distance → Bool
is_zero none = false
is_zero (far z) = eqb (nat_abs z) 0

unfoldable pub is_none : Distance → Bool
is_none none = true
is_none (far z) = false

-- no entry is "outside ±2,300,023", no "distance of an event to itself other than 0", no "detour shorter than an entry (none is longest)", and there is no
-- "entry for an event past the last"
unfoldable pub is_table : ℕ → Table → Bool
is_table n t =
    every_pair n (λ u v. in_range (t u v))
    && (every n (λ u. is_zero (t u u))
    && (every_pair n (λ u w. every n (λ v. no_longer (t u v) (and_then (t u w) (t w v))))
    && every_pair most_events (λ u v. (ltb u n && ltb v n) || is_none (t u v))))

-- what is asked of a lent day everywhere, in the order in which it is looked for
unfoldable pub table_tests : ℕ → Table → List Test
table_tests n t = (1, is_size n) ∷ (16, is_table n t) ∷ []

abbrev pub day_tests : Day → List Test
day_tests d = table_tests d.n (table_of d)

-- ---- a fresh day
-- "the day starts with no facts"; refused, it is a day of no events
unfoldable pub begun : ℕ → ℕ → Answered
begun n zero = record { number = 0; day = day_with n fresh }
begun n (suc r) = record { number = suc r; day = day_with 0 fresh }

unfoldable pub fresh_day : ℕ → Answered
fresh_day n = begun n (first_failed ((1, is_size n) ∷ []))

-- ---- one fact more
-- "what is added is an alternative or the opposite of one"
abbrev pub stated : ℤ → ℤ → ℤ → Alternative
stated x y c = record { no = 0; x = nat_abs x; y = nat_abs y; c = c }

abbrev pub asked : ℤ → ℤ → ℤ → Bool → Alternative
asked x y c o = cond o (opposite (stated x y c)) (stated x y c)

-- what is asked of the alternative, "bounds as its alternative's"
unfoldable pub fact_tests : ℕ → ℤ → ℤ → ℤ → List Test
fact_tests n x y c = (5, are_events n x y) ∷ (12, are_apart x y) ∷ (6, is_bound c) ∷ []

-- what is asked of the new entries: "13 exactly when the new fact has no timetable with the old ones"; "if the new entries would leave that range, that is 16 too"
unfoldable pub new_tests : ℕ → Table → Alternative → List Test
new_tests n t a = (13, fits a t) ∷ (16, every_pair n (λ u v. in_range (added a t u v))) ∷ []

-- "order: 1, 16 for the table, 5, 12, 6, 13, 16 for the result"
unfoldable pub add_refusal : Day → ℤ → ℤ → ℤ → Bool → ℕ
add_refusal d x y c o = first_failed (day_tests d ++ (fact_tests d.n x y c ++ new_tests d.n (table_of d) (asked x y c o)))

-- "every refusal leaves the day as it came"
unfoldable pub answered : Day → Alternative → ℕ → Answered
answered d a zero = record { number = 0; day = day_with d.n (added a (table_of d)) }
answered d a (suc r) = record { number = suc r; day = d }

unfoldable pub adding : Day → ℤ → ℤ → ℤ → Bool → Answered
adding d x y c o = answered d (asked x y c o) (add_refusal d x y c o)

-- ---- reading off
-- "refusals 1, 16, 8", for a timetable of k elements
unfoldable pub read_refusal : Day → ℕ → ℕ
read_refusal d k = first_failed (day_tests d ++ ((8, leb d.n k) ∷ []))

-- "refused, all 1; else n times, then 1s"
unfoldable pub times_read : Day → ℕ → ℕ → List ℤ
times_read d k zero = list_of d.n (latest_by d.n (table_of d)) ++ replicate (k - d.n) no_time
times_read d k (suc r) = replicate k no_time

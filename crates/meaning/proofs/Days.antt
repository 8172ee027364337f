-- The days of 01, as A4, A6 and A7 amend them, with all their numbers, as the table is lent them: one table, one claim, which antt computes. Assumes nothing.
use mathlib.Core.Path.{◌≡◌, refl}
use mathlib.Core.List.{List, [], ◌∷◌, ◌++◌, map}
use Prim.Native.Nat.{ℕ, ◌+◌, ◌-◌, ◌*◌}
use lib.IntN.{ℤ, pos, neg_ℤ}
use lib.ListN.{replicate, length}
use Rattle.meaning.specs.declared.Answer.{Answer}
use Rattle.meaning.specs.declared.Answer.TheVariants.{Plan, None, Unlisted, Stopped, Refused}
use Rattle.meaning.specs.declared.Verdict.TheVariants.{Yes, No, Refused as Refuse}
use Rattle.meaning.specs.Limits.{most_events, longest_day, row_bytes, blank_byte}
use Rattle.meaning.specs.Problem.{opposite, satisfied}
use Rattle.meaning.specs.Plain.{product}
use Rattle.meaning.specs.Decision.{ask, raise, round, rounds, least, settled, sound_by, latest_of, reach, sound}
use Rattle.meaning.specs.Search.{enter, look, later, and_then, branch, dead, first_dead, search}
use Rattle.meaning.specs.Reasons.{named, given, walk, loops, numbers, blank, filled, cycle_over, same, mark_row, kind, cycle_rows, front, reading, and_read, each_read, read, cut, rows_of, all_blank, ends, is_reading}
use Rattle.meaning.specs.Shortest.{or_else, first_below, top, begun_by, led_back, closed_by, or_none, shortest}
use Rattle.meaning.specs.Listing.{padded, row_of, listing, rows_in}
use Rattle.meaning.specs.Screen.{Lent, Input, alternatives, parted, clauses_of, stepped, events, bounds, problem_tests, plan_tests, first_failed, problem_refusal, refusal, cleared, listed, shown, decided, screen}
use Rattle.meaning.specs.Verdicts.{verdict, reasons_verdict, some, keeps, timetable_refusal, timetable_verdict}
use Rattle.meaning.specs.Lamps.{forced, lamps_of, joined, bits, ones, first_lit, lit, panel_of, dark, shown_panel, panel}

abbrev pub minus : ℕ → ℤ
minus n = neg_ℤ (pos n)

-- the alternative x,y,c
abbrev pub alt : ℕ → ℕ → ℤ → List ℤ
alt x y c = pos x ∷ pos y ∷ c ∷ []

abbrev pub lent : ℕ → List ℤ → List ℕ → Lent
lent n triples counts = record { n = n; triples = triples; counts = counts }

-- lent with an allowance, and room for a timetable of n + 2 times, one pick more than clauses, and so many bytes of reasons
abbrev call : Lent → ℕ → ℕ → Input
call l allowance room = record { lent = l; allowance = allowance; times = l.n + 2; picks = length l.counts + 1; room = room }

abbrev pub usual : Lent → Input
usual l = call l 1000 1000

-- what is seen of a day: the answer, the lent timetable, picks and reasons, and the lamps with their number
pub record Seen : Type 0 where
  pub answer : Answer
  pub times : List ℤ
  pub picks : List ℕ
  pub reasons : List ℕ
  pub lamps : ℕ
  pub total : ℕ

pub record Day : Type 0 where
  pub input : Input
  pub expected : Seen

-- rows as the days give them, by what stands before their 255s; and 255s after them
abbrev bytes : List (List ℕ) → List ℕ
bytes [] = []
bytes (row ∷ rows) = row ++ replicate (row_bytes - length row) blank_byte ++ bytes rows

abbrev pub day : Input → Answer → List ℤ → List ℕ → List (List ℕ) → ℕ → ℕ → Day
day i a t p r l k = record { input = i; expected = record { answer = a; times = t; picks = p; reasons = bytes r ++ replicate (i.room - length (bytes r)) blank_byte; lamps = l; total = k } }

unfoldable pub seen : Input → Seen
seen i =
    let s = screen i in
    let l = panel i.lent in
    record { answer = s.answer; times = s.times; picks = s.picks; reasons = s.reasons; lamps = l.lit; total = l.total }

abbrev pub d1 : Lent
d1 = lent 2 (alt 0 1 (minus 30)) (1 ∷ [])

abbrev pub d2 : Lent
d2 = lent 4 (alt 2 1 (pos 6) ++ alt 0 3 (pos 4) ++ alt 2 0 (pos 1) ++ alt 3 0 (minus 5) ++ alt 0 2 (minus 2) ++ alt 1 2 (minus 7)) (2 ∷ 4 ∷ 6 ∷ [])

abbrev pub d4 : Lent
d4 = lent 2 (alt 0 1 (minus 1) ++ alt 1 0 (minus 1)) (1 ∷ 2 ∷ [])

abbrev pub d5 : Lent
d5 = lent 1 (alt 0 0 (minus 1)) (1 ∷ [])

abbrev pub d8 : Lent
d8 = lent 2 (alt 0 1 (pos 5) ++ alt 1 0 (minus 5)) (1 ∷ 2 ∷ [])

-- A7: at the second position the facts are 1, of −4, and the opposite 64, of −9, from the same event to the same; either closes with 2 below 0, and the row names 1
abbrev pub parallel : Lent
parallel = lent 2 (alt 1 0 (pos 8) ++ alt 0 1 (minus 4) ++ alt 1 0 (pos 3) ++ alt 0 1 (minus 9)) (2 ∷ 3 ∷ 4 ∷ [])

-- A7: at the second position 0, 2 and 3 close with −100, and 3 with the opposite 65 with −1; the row names the two
abbrev pub fewer : Lent
fewer = lent 3 (alt 2 1 (minus 50) ++ alt 1 0 (minus 1) ++ alt 0 2 (minus 49) ++ alt 1 0 (minus 1) ++ alt 0 1 (pos 0)) (1 ∷ 3 ∷ 4 ∷ 5 ∷ [])

-- the timetable and the picks where there is no plan
abbrev pub ones-of : ℕ → List ℤ
ones-of n = replicate (n + 2) (pos 1)

abbrev pub blanks-of : ℕ → List ℕ
blanks-of m = replicate (m + 1) blank_byte

-- A4's own numbers: the events, how far times reach, D4's filling bytes and its room for unlisted
as-A4-has-it : most_events ∷ longest_day ∷ (row_bytes - 1) ∷ (row_bytes - 2) ∷ (3 * row_bytes - 1) ∷ [] ≡ 24 ∷ 2300000 ∷ 23 ∷ 22 ∷ 71 ∷ []
as-A4-has-it = refl

-- the days, then 12 with each of the others that its order parts it from: 4 with 12, 5 with 12, 12 with 6, with 7 and with 8
unfoldable pub days : List Day
days =
    day (usual d1) (Plan 2 0) (minus 30 ∷ pos 0 ∷ pos 1 ∷ pos 1 ∷ []) (0 ∷ 255 ∷ []) [] 1 1
    ∷ day (usual d2) (Plan 5 2) (minus 2 ∷ pos 0 ∷ pos 0 ∷ minus 7 ∷ pos 1 ∷ pos 1 ∷ []) (0 ∷ 1 ∷ 0 ∷ 255 ∷ []) [] 63 6
    ∷ day (call d2 4 1000) (Stopped 4 2) (ones-of 4) (blanks-of 3) [] 63 6
    ∷ day (call d2 0 1000) (Stopped 0 0) (ones-of 4) (blanks-of 3) [] 63 6
    ∷ day (usual d4) (None 2 1 3) (ones-of 2) (blanks-of 2) ((240 ∷ []) ∷ (201 ∷ []) ∷ (0 ∷ 1 ∷ []) ∷ []) 0 0
    ∷ day (call d4 1000 (3 * row_bytes - 1)) (Unlisted 2 1 3) (ones-of 2) (blanks-of 2) [] 0 0
    ∷ day (call d4 1000 (3 * row_bytes)) (None 2 1 3) (ones-of 2) (blanks-of 2) ((240 ∷ []) ∷ (201 ∷ []) ∷ (0 ∷ 1 ∷ []) ∷ []) 0 0
    ∷ day (usual d5) (Refused 12) (ones-of 1) (blanks-of 1) [] 0 0
    ∷ day (usual (lent 1 (alt 0 0 (pos 0)) (1 ∷ []))) (Refused 12) (ones-of 1) (blanks-of 1) [] 0 0
    ∷ day (usual (lent 3 [] [])) (Plan 1 0) (pos 0 ∷ pos 0 ∷ pos 0 ∷ pos 1 ∷ pos 1 ∷ []) (255 ∷ []) [] 0 0
    ∷ day (usual (lent 1 [] (0 ∷ []))) (None 1 0 1) (ones-of 1) (blanks-of 1) ((200 ∷ []) ∷ []) 0 0
    ∷ day (usual d8) (Plan 3 0) (pos 0 ∷ minus 5 ∷ pos 1 ∷ pos 1 ∷ []) (0 ∷ 0 ∷ 255 ∷ []) [] 3 2
    ∷ day (usual (lent 2 (alt 0 1 (pos 5) ++ alt 1 0 (minus 6)) (1 ∷ 2 ∷ []))) (None 2 1 3) (ones-of 2) (blanks-of 2) ((240 ∷ []) ∷ (201 ∷ []) ∷ (0 ∷ 1 ∷ []) ∷ []) 0 0
    ∷ day (usual (lent 3 (alt 0 1 (minus 10) ++ alt 1 2 (minus 3) ++ alt 0 1 (minus 5)) (1 ∷ 3 ∷ []))) (Plan 3 0) (minus 13 ∷ minus 3 ∷ pos 0 ∷ pos 1 ∷ pos 1 ∷ []) (0 ∷ 0 ∷ 255 ∷ []) [] 7 3
    ∷ day (usual (lent 2 (alt 0 1 (minus 1) ++ alt 0 1 (minus 1) ++ alt 1 0 (pos 0)) (2 ∷ 3 ∷ []))) (None 2 2 4) (ones-of 2) (blanks-of 2) ((240 ∷ []) ∷ (201 ∷ []) ∷ (0 ∷ 2 ∷ []) ∷ (1 ∷ 64 ∷ []) ∷ []) 4 1
    ∷ day (usual parallel) (None 3 2 5) (ones-of 2) (blanks-of 3) ((240 ∷ []) ∷ (202 ∷ []) ∷ (0 ∷ 3 ∷ []) ∷ (201 ∷ []) ∷ (1 ∷ 2 ∷ []) ∷ []) 0 0
    ∷ day (usual fewer) (None 4 2 6) (ones-of 3) (blanks-of 4) ((240 ∷ []) ∷ (240 ∷ []) ∷ (203 ∷ []) ∷ (1 ∷ 4 ∷ []) ∷ (202 ∷ []) ∷ (3 ∷ 65 ∷ []) ∷ []) 0 0
    ∷ day (usual (lent 2 (alt 0 1 (pos 100000)) (1 ∷ []))) (Plan 2 0) (pos 0 ∷ pos 0 ∷ pos 1 ∷ pos 1 ∷ []) (0 ∷ 255 ∷ []) [] 1 1
    ∷ day (usual (lent 2 (alt 0 1 (pos 100001)) (1 ∷ []))) (Refused 6) (ones-of 2) (blanks-of 1) [] 0 0
    ∷ day (usual (lent most_events [] [])) (Plan 1 0) (replicate most_events (pos 0) ++ pos 1 ∷ pos 1 ∷ []) (255 ∷ []) [] 0 0
    ∷ day (usual (lent (most_events + 1) [] [])) (Refused 1) (ones-of (most_events + 1)) (blanks-of 0) [] 0 0
    ∷ day (usual (lent 2 (alt 1 1 (pos 0)) (2 ∷ []))) (Refused 4) (ones-of 2) (blanks-of 1) [] 0 0
    ∷ day (usual (lent 2 (alt 1 1 (pos 0) ++ alt 0 2 (pos 0)) (1 ∷ 2 ∷ []))) (Refused 5) (ones-of 2) (blanks-of 2) [] 0 0
    ∷ day (usual (lent 2 (alt 0 1 (pos 100001) ++ alt 1 1 (pos 0)) (1 ∷ 2 ∷ []))) (Refused 12) (ones-of 2) (blanks-of 2) [] 0 0
    ∷ day (call (lent 2 (alt 1 1 (pos 0)) (1 ∷ [])) 1000001 1000) (Refused 12) (ones-of 2) (blanks-of 1) [] 0 0
    ∷ day (record { lent = lent 2 (alt 1 1 (pos 0)) (1 ∷ []); allowance = 1000; times = 1; picks = 2; room = 24 }) (Refused 12) (pos 1 ∷ []) (blanks-of 1) [] 0 0
    ∷ []

pub days-hold : map (λ (d : Day). seen d.input) days ≡ map (λ (d : Day). d.expected) days
unfolding days seen screen decided shown listed cleared rows_in listing row_of padded mark_row shortest or_none closed_by led_back begun_by top first_below or_else named refusal problem_refusal problem_tests plan_tests first_failed bounds events stepped clauses_of parted alternatives panel shown_panel panel_of dark lit lamps_of joined bits ones first_lit forced search branch and_then later look enter first_dead dead sound reach sound_by settled latest_of least rounds round raise ask opposite product
days-hold = refl

-- D4's three rows, with a cycle's first two numbers, and 4 bytes of room more
pub d4-list : ℕ → ℕ → List ℕ
d4-list a b = (240 ∷ replicate (row_bytes - 1) 255) ++ (201 ∷ replicate (row_bytes - 1) 255) ++ (a ∷ b ∷ replicate (row_bytes - 2) 255) ++ replicate 4 255

-- "the reader still takes any valid cycle": 1, 0 is read yes as 0, 1 is, and a cycle of one arc is not
pub d4-read : map (reasons_verdict d4) (d4-list 0 1 ∷ d4-list 1 0 ∷ d4-list 0 255 ∷ []) ≡ Yes ∷ Yes ∷ No ∷ []
unfolding d4-list reasons_verdict verdict problem_refusal problem_tests first_failed bounds events stepped clauses_of parted alternatives is_reading ends all_blank rows_of cut read each_read and_read reading front cycle_rows kind mark_row same cycle_over filled blank numbers loops walk given named opposite
d4-read = refl

-- D5 is refused by the readers and the lamps too, by the second reader before the timetable's length is looked at
pub d5-refused : (reasons_verdict d5 [] ∷ timetable_verdict d5 [] ∷ timetable_verdict d5 (pos 0 ∷ []) ∷ [] ≡ Refuse 12 ∷ Refuse 12 ∷ Refuse 12 ∷ []) × ((panel d5).number ≡ 12)
unfolding reasons_verdict timetable_verdict timetable_refusal verdict problem_refusal problem_tests first_failed bounds events stepped panel shown_panel dark
d5-refused = (refl, refl)

-- the timetable of D1 is read yes, and one a minute late is not
pub d1-read : map (timetable_verdict d1) ((minus 30 ∷ pos 0 ∷ []) ∷ (minus 29 ∷ pos 0 ∷ []) ∷ []) ≡ Yes ∷ No ∷ []
unfolding timetable_verdict timetable_refusal verdict problem_tests first_failed bounds events stepped clauses_of parted alternatives keeps some satisfied
d1-read = refl

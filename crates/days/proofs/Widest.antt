-- A4's days with as many events as there may be, computed as the days of 01 are (meaning/proofs/Days). They stand apart, in a crate without
-- must-fail edits, since each takes some 300 tests. Assumes nothing.
use mathlib.Core.Path.{◌≡◌, refl}
use mathlib.Core.List.{List, [], ◌∷◌, ◌++◌, map}
use Prim.Native.Nat.{ℕ, zero, suc, ◌+◌, ◌-◌, ◌*◌, ◌^◌}
use lib.IntN.{ℤ, pos}
use lib.ListN.{replicate}
use Rattle.meaning.specs.declared.Answer.TheVariants.{Plan, None}
use Rattle.meaning.specs.declared.Verdict.TheVariants.{Yes, No}
use Rattle.meaning.specs.Limits.{most_events, most_bound, row_bytes, onward_mark, dead_mark, blank_byte}
use Rattle.meaning.specs.Problem.{opposite}
use Rattle.meaning.specs.Plain.{product}
use Rattle.meaning.specs.Decision.{ask, raise, round, rounds, least, settled, sound_by, latest_of, reach, sound}
use Rattle.meaning.specs.Search.{enter, look, later, and_then, branch, dead, first_dead, search}
use Rattle.meaning.specs.Reasons.{named, given, walk, loops, numbers, blank, filled, cycle_over, same, mark_row, kind, cycle_rows, front, reading, and_read, each_read, read, cut, rows_of, all_blank, ends, is_reading}
use Rattle.meaning.specs.Shortest.{or_else, first_below, top, begun_by, led_back, closed_by, or_none, shortest}
use Rattle.meaning.specs.Listing.{padded, row_of, listing, rows_in}
use Rattle.meaning.specs.Screen.{Lent, alternatives, parted, clauses_of, stepped, events, bounds, problem_tests, plan_tests, first_failed, problem_refusal, refusal, cleared, listed, shown, decided, screen}
use Rattle.meaning.specs.Verdicts.{verdict, reasons_verdict}
use Rattle.meaning.specs.Lamps.{forced, lamps_of, joined, bits, ones, first_lit, lit, panel_of, dark, shown_panel, panel}
use Rattle.meaning.proofs.Days.{Day, alt, lent, day, usual, minus, seen, ones-of, blanks-of}

-- so many numbers, from the first on
abbrev numbers_from : ℕ → ℕ → List ℕ
numbers_from first zero = []
numbers_from first (suc more) = first ∷ numbers_from (first + 1) more

-- each of the events at most c minutes after the next
abbrev ahead : ℤ → List ℕ → List ℤ
ahead c [] = []
ahead c (e ∷ more) = alt e (e + 1) c ++ ahead c more

abbrev last_event : ℕ
last_event = most_events - 1

-- the events from the last down to 0
abbrev downward : List ℕ
downward = map (λ (e : ℕ). last_event - e) (numbers_from 0 most_events)

-- each event 100,000 minutes before the next
abbrev chain : Lent
chain = lent most_events (ahead (minus most_bound) (numbers_from 0 last_event)) (numbers_from 1 last_event)

-- none after the next, and the last a minute before the first: as many arcs as events, and no fewer sum below 0
abbrev ring : Lent
ring = lent most_events (ahead (pos 0) (numbers_from 0 last_event) ++ alt last_event 0 (minus 1)) (numbers_from 1 most_events)

-- planned from as far before closing as a day may begin
abbrev chain-day : Day
chain-day = day (usual chain) (Plan most_events 0) (map (λ (e : ℕ). minus (e * most_bound)) downward ++ pos 1 ∷ pos 1 ∷ []) (replicate last_event 0 ++ blank_byte ∷ []) [] (2 ^ last_event - 1) last_event

pub chain-holds : seen chain-day.input ≡ chain-day.expected
unfolding seen screen decided shown listed cleared rows_in listing row_of padded mark_row shortest or_none closed_by led_back begun_by top first_below or_else named refusal problem_refusal problem_tests plan_tests first_failed bounds events stepped clauses_of parted alternatives panel shown_panel panel_of dark lit lamps_of joined bits ones first_lit forced search branch and_then later look enter first_dead dead sound reach sound_by settled latest_of least rounds round raise ask opposite product
chain-holds = refl

-- each clause but the last goes on, the last is dead, and its cycle names every arc, from arc 0 on: that ends at event 0, where the last starts
abbrev ring-day : Day
ring-day = day (usual ring) (None most_events 1 (most_events + 1)) (ones-of most_events) (blanks-of most_events) (replicate last_event (onward_mark ∷ []) ++ ((dead_mark + last_event) ∷ []) ∷ (0 ∷ map (λ (e : ℕ). last_event - e) (numbers_from 0 last_event)) ∷ []) 0 0

pub ring-holds : seen ring-day.input ≡ ring-day.expected
unfolding seen screen decided shown listed cleared rows_in listing row_of padded mark_row shortest or_none closed_by led_back begun_by top first_below or_else named refusal problem_refusal problem_tests plan_tests first_failed bounds events stepped clauses_of parted alternatives panel shown_panel panel_of dark lit lamps_of joined bits ones first_lit forced search branch and_then later look enter first_dead dead sound reach sound_by settled latest_of least rounds round raise ask opposite product
ring-holds = refl

-- the rows of the ring, the last of them as given
abbrev marks : ℕ → List ℕ
marks zero = (dead_mark + last_event) ∷ replicate (row_bytes - 1) blank_byte
marks (suc more) = (onward_mark ∷ replicate (row_bytes - 1) blank_byte) ++ marks more

abbrev ring-list : List ℕ → List ℕ
ring-list row = marks last_event ++ row

-- a row that is full is read yes; not with its last arc cut off, and not against the arcs
pub ring-read : map (λ (row : List ℕ). reasons_verdict ring (ring-list row)) (downward ∷ (map (λ (e : ℕ). last_event - e) (numbers_from 0 last_event) ++ blank_byte ∷ []) ∷ numbers_from 0 most_events ∷ []) ≡ Yes ∷ No ∷ No ∷ []
unfolding reasons_verdict verdict problem_refusal problem_tests first_failed bounds events stepped clauses_of parted alternatives is_reading ends all_blank rows_of cut read each_read and_read reading front cycle_rows kind mark_row same cycle_over filled blank numbers loops walk given named opposite
ring-read = refl

-- The sizes and limits of 01, "What the table is given" and "The list of reasons", each under one name. Definitions only.
use Rattle.std.specs.Prelude.{ℕ, ◌*◌, ◌-◌, ℤ, pos}

-- as A4 has it; what follows from it is said by this name
abbrev pub most_events : ℕ
most_events = 24

abbrev pub most_clauses : ℕ
most_clauses = 32

abbrev pub most_in_clause : ℕ
most_in_clause = 4

abbrev pub most_alternatives : ℕ
most_alternatives = 64

abbrev pub most_bound : ℕ
most_bound = 100000

abbrev pub most_allowance : ℕ
most_allowance = 1000000

-- no time of a latest timetable of alternatives lies further before closing: an arc for each other event
abbrev pub longest_day : ℕ
longest_day = (most_events - 1) * most_bound

-- the bytes of a row: as many as there are events at the most
abbrev pub row_bytes : ℕ
row_bytes = most_events

-- "j for alternative j, 64 + j for its opposite"
abbrev pub opposite_from : ℕ
opposite_from = most_alternatives

-- the first byte of a mark row: "240 if it goes on to the next clause, or 200 + d if clause d is dead"
abbrev pub onward_mark : ℕ
onward_mark = 240

abbrev pub dead_mark : ℕ
dead_mark = 200

-- what fills picks and reasons
abbrev pub blank_byte : ℕ
blank_byte = 255

-- what fills a timetable that is none
abbrev pub no_time : ℤ
no_time = pos 1

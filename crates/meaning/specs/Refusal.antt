-- The numbers of the refusals, and what a result says of them: 0 where nothing is refused. Definitions only.
use Rattle.std.specs.Prelude.{ℕ, Result, Ok, Err}
use Rattle.meaning.specs.declared.Refusal.{Refusal}
use Rattle.meaning.specs.declared.Refusal.TheVariants.{Events, Clauses, Triples, Counts, Event, Bound, Allowance, Lent, Itself, NoTimetable, NoDay, Script, Room}

-- a refusal's number, as 01 and 02 have it
abbrev pub number_of : Refusal → ℕ
number_of Events = 1
number_of Clauses = 2
number_of Triples = 3
number_of Counts = 4
number_of Event = 5
number_of Bound = 6
number_of Allowance = 7
number_of Lent = 8
number_of Itself = 12
number_of NoTimetable = 13
number_of NoDay = 16
number_of Script = 20
number_of Room = 21

-- the number that a result is told with
abbrev pub told_as : {A : Type 0} → Result A Refusal → ℕ
told_as (Ok a) = 0
told_as (Err e) = number_of e

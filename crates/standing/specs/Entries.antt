-- A standing day as it is lent and handed back: which distances its entries are, and which facts. Definitions only.
use Rattle.std.specs.Prelude.{cond, ◌&&◌, List, [], ◌∷◌, ◌++◌, ℕ, zero, suc, ◌+◌, ◌*◌, ◌/◌, ◌%◌, ltb, eqb, ℤ, pos, negsuc, get_or}
use Rattle.meaning.specs.Limits.{most_events}
use Rattle.meaning.specs.Problem.{Alternative}
use Rattle.distances.specs.Distances.{Distance, none, far, Table}
use Rattle.standing.specs.declared.Day.{Day}

-- ---- distances
-- "none is 2,147,483,647", the largest signed number of 32 bits
abbrev pub no_entry : ℤ
no_entry = pos 2147483647

-- the distance that an entry says
unfoldable pub said : ℤ → Distance
said (pos k) = cond (eqb k 2147483647) none (far (pos k))
said (negsuc k) = far (negsuc k)

-- the entry that says a distance
unfoldable pub entry_of : Distance → ℤ
entry_of none = no_entry
entry_of (far z) = z

-- the table of a day: "row = from, column = to"
abbrev pub table_of : Day → Table
table_of d u v = said (get_or d.entries (u * most_events + v) no_entry)

-- f 0, f 1 and so on, k of them
unfoldable pub list_of : ℕ → (ℕ → ℤ) → List ℤ
list_of zero f = []
list_of (suc k) f = f 0 ∷ list_of k (λ i. f (suc i))

-- the table up to the last event; "none … stands in every entry for an event past the last, its own diagonal included"
unfoldable pub among : ℕ → Table → Table
among n t u v = cond (ltb u n && ltb v n) (t u v) none

-- the day of n events with the distances of a table
unfoldable pub day_with : ℕ → Table → Day
day_with n t =
    record {
      n = n;
      entries = list_of (most_events * most_events) (λ k. entry_of (among n t (k / most_events) (k % most_events)));
    }

-- ---- facts
-- "a table that passes has its own entries as its facts": from u to v at most z
abbrev pub entry : ℕ → ℕ → ℤ → Alternative
entry u v z = record { no = 0; x = v; y = u; c = z }

unfoldable pub facts_at : ℕ → ℕ → Distance → List Alternative
facts_at u v none = []
facts_at u v (far z) = entry u v z ∷ []

-- the entries from u to the events below v
unfoldable pub row_facts : Table → ℕ → ℕ → List Alternative
row_facts d u zero = []
row_facts d u (suc v) = facts_at u v (d u v) ++ row_facts d u v

-- the entries from the events below u to n events
unfoldable pub rows_facts : Table → ℕ → ℕ → List Alternative
rows_facts d n zero = []
rows_facts d n (suc u) = row_facts d u n ++ rows_facts d n u

-- the table's own entries, as facts
abbrev pub own_facts : ℕ → Table → List Alternative
own_facts n d = rows_facts d n n

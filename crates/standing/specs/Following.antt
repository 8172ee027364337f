-- When a standing day is the day of some facts; and the table's loop, one addition after another on one day. Definitions only.
use Rattle.std.specs.Prelude.{◌≡◌, Bool, true, cond, ◌*◌, ◌≤◌, T, eqb, ℤ, nat_abs, length}
use mathlib.Core.List.{List, [], ◌∷◌, Memᴰ}
use Rattle.meaning.specs.Limits.{most_events}
use Rattle.meaning.specs.Problem.{Alternative}
use Rattle.meaning.specs.Screen.{is_size}
use Rattle.problem.specs.Arcs.{bias}
use Rattle.distances.specs.Distances.{DayOf}
use Rattle.standing.specs.declared.Day.{Day}
use Rattle.standing.specs.Entries.{table_of}
use Rattle.standing.specs.Standing.{is_table, asked, adding}

-- the day is taken by every operation, and its table is the day of the facts
pub record Follows (d : Day) (fs : List Alternative) : Type 0 where
  pub sized : is_size d.n ≡ true
  pub long : length d.entries ≡ most_events * most_events
  pub table : T (is_table d.n (table_of d))
  pub day : DayOf d.n fs (table_of d)

-- the facts are alternatives that 01 accepts, or opposites of such
pub record Bounded (fs : List Alternative) : Type 0 where
  pub each : (a : Alternative) → Memᴰ a fs → nat_abs a.c ≤ bias

-- ---- the table's loop
-- what one addition is asked
pub record Addition : Type 0 where
  pub x : ℤ
  pub y : ℤ
  pub c : ℤ
  pub opposite : Bool

abbrev pub fact_of : Addition → Alternative
fact_of q = asked q.x q.y q.c q.opposite

-- the day after all of them
unfoldable pub followed : Day → List Addition → Day
followed d [] = d
followed d (q ∷ qs) = followed (adding d q.x q.y q.c q.opposite).day qs

-- the facts of those that are accepted, newest first, before fs
unfoldable pub accepted : Day → List Addition → List Alternative → List Alternative
accepted d [] fs = fs
accepted d (q ∷ qs) fs =
    let r = adding d q.x q.y q.c q.opposite in
    accepted r.day qs (cond (eqb r.number 0) (fact_of q ∷ fs) fs)

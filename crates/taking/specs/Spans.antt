-- What every latest timetable keeps: no two events lie further apart than the farthest time of a day. With that said of every pair of events as facts, each event is reached from each
-- other, so that a table of distances needs no none. Definitions only.
use Rattle.std.specs.Prelude.{List, [], ◌∷◌, ◌++◌, ℕ, zero, suc, pos}
use Rattle.meaning.specs.Problem.{Alternative}
use Rattle.problem.specs.Arcs.{farthest}

-- event v lies no further after event u
abbrev pub span : ℕ → ℕ → Alternative
span u v = record { no = 0; x = v; y = u; c = pos farthest }

-- nor do the first k events
unfoldable pub spans_from : ℕ → ℕ → List Alternative
spans_from u zero = []
spans_from u (suc k) = span u k ∷ spans_from u k

-- nor any of n events after the first k
unfoldable pub spans_between : ℕ → ℕ → List Alternative
spans_between n zero = []
spans_between n (suc k) = spans_from k n ++ spans_between n k

-- of every pair of n events
abbrev pub spans : ℕ → List Alternative
spans n = spans_between n n

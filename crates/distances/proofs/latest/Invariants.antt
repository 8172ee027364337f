-- `latest` meets its contract. Assumes nothing.
use mathlib.Core.Path.{◌≡◌}
use Prim.Native.Nat.{ℕ, ◌<◌, ◌≤◌}
use lib.ListN.{length}
use Rattle.problem.specs.Arcs.{at}
use Rattle.distances.specs.Numbers.{minutes_of, middle}
use Rattle.meaning.specs.Limits.{most_events}
use Rattle.distances.proofs.latest.Given as goal

abbrev pub invariant-loop-v : goal.invariant-loop-v
invariant-loop-v l = (length l.t ≡ most_events) × ((k : ℕ) → k < l.v → at l.t k ≡ minutes_of l.s l.day.base l.day.w k l.day.n) × ((k : ℕ) → at l.t k ≤ middle)

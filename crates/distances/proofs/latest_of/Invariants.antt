-- `latest_of` meets its contract. Assumes nothing.
use mathlib.Core.Path.{◌≡◌}
use Rattle.distances.specs.Numbers.{minutes_of}
use Rattle.distances.proofs.latest_of.Given as goal

abbrev pub invariant-loop-u : goal.invariant-loop-u
invariant-loop-u l = l.m ≡ minutes_of l.s l.day.base l.day.w l.v l.u

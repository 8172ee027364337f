-- The shortest reason: there is exactly one wherever facts that their numbers tell apart have no timetable, and none elsewhere. Assumes nothing.
use mathlib.Core.Path.{◌≡◌, sym, subst}
use mathlib.Core.Bool.{true, false}
use mathlib.Core.List.{List, []}
use Prim.Native.Nat.{ℕ, ◌≤◌}
use lib.Dec.{T}
use lib.ListN.{length}
use Rattle.meaning.specs.Problem.{Alternative}
use Rattle.meaning.specs.Decision.{sound}
use Rattle.meaning.specs.Shortest.{Shortest, shortest}
use Rattle.meaning.proofs.Settling.{Each, In}
use Rattle.meaning.proofs.Deciding.{sound-decides}
use Rattle.meaning.proofs.Cycle.{loops-none}
use Rattle.meaning.proofs.Ways.{loop-loops}
use Rattle.meaning.proofs.Numbered.{Numbered}
use Rattle.meaning.proofs.Conflict.{unsound-loop}
use Rattle.meaning.proofs.Shapes.{one-shortest, few-arcs}
use Rattle.meaning.proofs.Finding.{shortest-found, shortest-none}

module _ (f : ℕ → Alternative) (fs : List Alternative) (h : Numbered f fs) (e : sound fs ≡ false) where
  -- no timetable: there is a closed walk below 0, and so a shortest
  pub shortest-is : Shortest fs (shortest fs)
  shortest-is = let (l, r) = unsound-loop f fs h e in shortest-found fs l (loop-loops fs l r)

  pub shortest-one : (l : List ℕ) → Shortest fs l → l ≡ shortest fs
  shortest-one l s = one-shortest fs l (shortest fs) s shortest-is

  -- it has no more numbers than there are events
  pub shortest-few : (n : ℕ) → Each (In n) fs → length (shortest fs) ≤ n
  shortest-few n inside = few-arcs fs (shortest fs) shortest-is.closed shortest-is.fewest n inside

-- a timetable: there is none
pub sound-no-reason : (fs : List Alternative) → sound fs ≡ true → shortest fs ≡ []
sound-no-reason fs e = let (t, y) = sound-decides.right fs (subst T (sym e) tt) in shortest-none fs (λ l c. loops-none t fs l c y)

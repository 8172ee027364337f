-- One fact more: an arc stored before the facts of a buffer makes it the first of them. Assumes nothing.
use Prim.Native.Nat.{ℕ, ◌+◌, ◌-◌, ◌≤◌}
use mathlib.Core.Path.{◌≡◌, ◌∙◌}
use mathlib.Core.List.{List, ◌∷◌, map}
use native.Mathlib.Omega.{arith}
use lib.ListN.{length, set, length-set, take, drop, length-drop}
use lib.Seq.{take_all}
use Rattle.std.proofs.Common.{Option}
use Rattle.lent.proofs.Writing.{put-before}
use Rattle.problem.specs.Arcs.{Net, arc, Arc}
use Rattle.problem.proofs.Knowing.{known_more}
use Rattle.facts.specs.Tests.{Within, Tests}

-- j stored before place a: k elements at the most from there on
module _ (l : List ℕ) (a j k : ℕ) (p : 1 ≤ a) (h : a ≤ length l) (m : length l ≤ a - 1 + k) where
  stored-first : take k (drop (a - 1) (set l (a - 1) j)) ≡ j ∷ drop a l
  stored-first =
      take_all k (drop (a - 1) (set l (a - 1) j)) (simp (length-drop, length-set) (omega arith))
      ∙ put-before l a j p h

  pub within-stored : (g : Net) (n : ℕ) → Within g (drop a l) n → Arc g n j → Within g (take k (drop (a - 1) (set l (a - 1) j))) n
  within-stored g n w b = rw stored-first (record { known = known_more g n j (drop a l) b w.known; few = w.few })

  pub tests-stored : (g : Net) (n : ℕ) (answer : Option (List ℕ)) → Tests (map (arc g) (take k (drop (a - 1) (set l (a - 1) j)))) n answer → Tests (arc g j ∷ map (arc g) (drop a l)) n answer
  tests-stored g n answer t = rw stored-first at t

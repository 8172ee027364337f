-- Arcs as they are kept, and lists of their numbers. Assumes nothing.
use mathlib.Core.Path.{◌≡◌}
use mathlib.Core.List.{List, [], ◌∷◌}
use Prim.Native.Nat.{ℕ, zero, suc, ◌<◌}
use native.Mathlib.Nat.{not-suc-le-zero, le_of_suc-le-suc}
use lib.ListN.{length, get_or, get_or-map, length-map}
use Rattle.problem.specs.declared.Edge.{Edge}
use Rattle.problem.specs.Arcs.{Net, net, no_edge, at, head, tail, bound, Arc, Known}

-- ---- the numbers of an arc, where it is kept
module _ (l : List Edge) (j : ℕ) where
  pub head-is : head (net l) j ≡ (get_or l j no_edge).x
  head-is = get_or-map (λ (e : Edge). e.x) l j no_edge

  pub tail-is : tail (net l) j ≡ (get_or l j no_edge).y
  tail-is = get_or-map (λ (e : Edge). e.y) l j no_edge

  pub bound-is : bound (net l) j ≡ (get_or l j no_edge).b
  bound-is = get_or-map (λ (e : Edge). e.b) l j no_edge

  -- it is one of those that are kept
  pub in-edges : {n : ℕ} → Arc (net l) n j → j < length l
  in-edges a = rw (← length-map l (λ (e : Edge). e.x)) a.in-xs

-- ---- lists of numbers
module _ (g : Net) (n : ℕ) where
  pub known-none : Known g n []
  known-none = record { each = λ i l. absurd (not-suc-le-zero l) }

  pub known_more : (j : ℕ) (L : List ℕ) → Arc g n j → Known g n L → Known g n (j ∷ L)
  known_more j L a k = record { each = go }
    where
      go : (i : ℕ) → i < suc (length L) → Arc g n (at (j ∷ L) i)
      go zero l = a
      go (suc i) l = k.each i (le_of_suc-le-suc l)

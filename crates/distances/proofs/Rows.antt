-- Numbers that stay small as they are written. Assumes nothing.
use mathlib.Core.Logic.{by_cases}
use mathlib.Core.List.{List}
use Prim.Native.Nat.{ℕ, ◌<◌, ◌≤◌}
use native.Mathlib.Omega.{arith}
use native.Mathlib.Decide.{ℕ_discrete}
use lib.ListN.{length, set}
use lib.Seq.{get_or-set_same, get_or-set_other}
use Rattle.problem.specs.Arcs.{at}

-- a list whose numbers stay small
pub small-more : (m : ℕ) (t : List ℕ) (v x : ℕ) → ((k : ℕ) → at t k ≤ m) → v < length t → x ≤ m → (k : ℕ) → at (set t v x) k ≤ m
small-more m t v x h l e k =
    by_cases (ℕ_discrete k v) (λ q. rw q (omega (arith, get_or-set_same t v x 0 l))) (λ q. omega (arith, get_or-set_other t v k x 0 q, h k))

-- Facts that lie on no closed walk below 0 through a new fact, by the numbers of a table. Assumes nothing.
use mathlib.Core.List.Memᴰ
use mathlib.Core.List.{List}
use Prim.Native.Nat.{ℕ, ◌+◌, ◌*◌, ◌<◌, ◌≤◌}
use native.Mathlib.Omega.{arith}
use lib.IntN.{ℤ, pos, sub_ℕ, ◌+ℤ◌}
use lib.Signed.{◌≤ℤ◌}
use Rattle.laws.proofs.Integers.{sub-law, add-law, le-to, le_of}
use Rattle.meaning.specs.Problem.{Alternative}
use Rattle.problem.specs.Arcs.{Net, bias, head, tail, bound, arc, Arc}
use Rattle.distances.specs.Distances.{Walk, far, AtMost, most}
use Rattle.distances.proofs.Walking.{over-more}
use Rattle.taking.specs.Spans.{spans}
use Rattle.taking.specs.Tables.{level, turn, entry, IsDay}
use Rattle.taking.specs.Taking.{Aside}

-- no walk under the facts is shorter than its entry, since the spans only add walks
entry-least : (w : ℕ) (fs : List Alternative) (t : List (List ℕ)) → IsDay w fs t → (u v : ℕ) → u < w → v < w → (s : ℤ) → Walk fs u v s → sub_ℕ (entry t u v) level ≤ℤ s
entry-least w fs t h u v l m s walk = go ((h.day.each u v l m).least s (over-more (λ a j. Memᴰ.append_left (spans w) j) walk))
  where
    go : {z : ℤ} → AtMost (far z) s → z ≤ℤ s
    go (most k) = k

-- so a way through j that does not close below 0 in numbers does so nowhere
pub set-aside : (g : Net) (w : ℕ) (fs : List Alternative) (t : List (List ℕ)) → IsDay w fs t → (a j : ℕ) → Arc g w a → Arc g w j → 2 * turn ≤ entry t (head g a) (tail g j) + bound g j + entry t (head g j) (tail g a) + bound g a → Aside g fs a j
set-aside g w fs t h a j in-a in-j over =
    record {
      each = λ s r there back.
          let x = sub_ℕ (entry t (head g a) (tail g j)) level in
          let y = sub_ℕ (entry t (head g j) (tail g a)) level in
          let p = le-to x s (entry-least w fs t h (head g a) (tail g j) in-a.in_head in-j.in_tail s there) in
          let q = le-to y r (entry-least w fs t h (head g j) (tail g a) in-j.in_head in-a.in_tail r back) in
          le_of (pos 0) (s +ℤ (arc g j).c +ℤ (r +ℤ (arc g a).c))
          (omega (arith, over, p, q, sub-law (entry t (head g a) (tail g j)) level, sub-law (entry t (head g j) (tail g a)) level, sub-law (bound g j) bias, sub-law (bound g a) bias, add-law s (arc g j).c, add-law r (arc g a).c, add-law (s +ℤ (arc g j).c) (r +ℤ (arc g a).c)));
    }

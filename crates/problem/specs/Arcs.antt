-- A problem in the numbers that the tests use: arcs by their numbers, j for alternative j and 64 + j for its opposite.
-- A bound c stands as c + bias; a time t as the minutes −t before closing. Definitions only.
use Rattle.std.specs.Prelude.{List, [], ◌∷◌, map, ℕ, zero, suc, ◌+◌, ◌-◌, ◌*◌, ◌<◌, length}
use Rattle.std.proofs.Math.IntN.{sub_ℕ}
use Rattle.meaning.specs.Limits.{most_events, most_alternatives, most_bound}
use Rattle.meaning.specs.Problem.{Alternative, Clause}
use Rattle.problem.specs.declared.Edge.{Edge}
pub use Rattle.meaning.specs.Decision.{at}

-- what is added to a bound, so that an opposite's is no less than 0
abbrev pub bias : ℕ
bias = most_bound + 1

-- no time of a test lies further before closing, and no distance further from 0: as many arcs as lead to all the other events, each with the least bound of an opposite
abbrev pub farthest : ℕ
farthest = (most_events - 1) * bias

-- arc j leads from event ys j to event xs j; its bound is bs j less the bias
pub record Net : Type 0 where
  pub xs : List ℕ
  pub ys : List ℕ
  pub bs : List ℕ

-- the net of arcs as they are kept
abbrev pub net : List Edge → Net
net l = record { xs = map (λ (e : Edge). e.x) l; ys = map (λ (e : Edge). e.y) l; bs = map (λ (e : Edge). e.b) l }

-- what stands in an unused place
abbrev pub no_edge : Edge
no_edge = record { x = 0; y = 0; b = 0 }

abbrev pub head : Net → ℕ → ℕ
head g j = at g.xs j

abbrev pub tail : Net → ℕ → ℕ
tail g j = at g.ys j

abbrev pub bound : Net → ℕ → ℕ
bound g j = at g.bs j

-- the alternative, or the opposite of one, that arc j stands for
abbrev pub arc : Net → ℕ → Alternative
arc g j = record { no = j; x = head g j; y = tail g j; c = sub_ℕ (bound g j) bias }

-- arc j is one of the net, its events lie below n, and its bound in the range of bounds and of their opposites
pub record Arc (g : Net) (n j : ℕ) : Type 0 where
  pub in-xs : j < length g.xs
  pub in_ys : j < length g.ys
  pub in-bs : j < length g.bs
  pub in_head : head g j < n
  pub in_tail : tail g j < n
  pub small : bound g j < 2 * bias

-- each number of the list is an arc's
pub record Known (g : Net) (n : ℕ) (L : List ℕ) : Type 0 where
  pub each : (i : ℕ) → i < length L → Arc g n (at L i)

-- the places of a buffer of facts: one for each alternative or its opposite, and one for an arc that is tested with them
abbrev pub places : ℕ
places = most_alternatives + 1

-- k arcs from number j on, as a clause
unfoldable pub arcs_from : Net → ℕ → ℕ → Clause
arcs_from g j zero = []
arcs_from g j (suc k) = arc g j ∷ arcs_from g (suc j) k

-- The problem by value that an accepted input is loaded into, element by element. Definitions only.
use Rattle.std.specs.Prelude.{List, ◌∷◌, ◌++◌, map, ◌≡◌, ℕ, suc, ◌-◌, ◌*◌, ◌≤◌, T, ℤ, pos, nat_abs, ◌+ℤ◌, length, replicate}
use Rattle.meaning.specs.Limits.{most_events, most_clauses, most_alternatives}
use Rattle.meaning.specs.Problem.{Alternative, opposite}
use Rattle.meaning.specs.Screen.{Lent, alternatives, events, bounds, are_events, is_bound}
use Rattle.problem.specs.declared.Edge.{Edge}
use Rattle.problem.specs.declared.Problem.{Problem}
use Rattle.problem.specs.Arcs.{bias, no_edge}

-- a list in w places, z in those left
abbrev pub placed : {A : Type 0} → A → ℕ → List A → List A
placed z w l = l ++ replicate (w - length l) z

-- a bound as the natural number c + bias
abbrev pub biased : Alternative → ℕ
biased a = nat_abs (a.c +ℤ pos bias)

-- an alternative, or an opposite, as an arc
abbrev pub edge_of : Alternative → Edge
edge_of a = record { x = a.x; y = a.y; b = biased a }

abbrev pub turned : Alternative → Edge
turned a = edge_of (opposite a)

-- the arcs of the alternatives in the first 64 places, those of their opposites in the 64 after them
abbrev pub edges_of : List Alternative → List Edge
edges_of made = placed no_edge most_alternatives (map edge_of made) ++ placed no_edge most_alternatives (map turned made)

-- no more triples than there may be alternatives, each with its numbers in their ranges
pub record Loadable (triples : List ℤ) : Type 0 where
  pub few : length triples ≤ 3 * most_alternatives
  pub n : ℕ
  pub most : n ≤ most_events
  pub events : T (events (are_events n) triples)
  pub bounds : T (bounds is_bound triples)

-- the accepted problem: starts is 0 and then the counts
pub record IsLoaded (l : Lent) (p : Problem) : Type 0 where
  pub n : p.n ≡ l.n
  pub m : p.m ≡ length l.counts
  pub starts : p.starts ≡ placed 0 (suc most_clauses) (0 ∷ l.counts)
  pub arcs : p.arcs ≡ edges_of (alternatives 0 l.triples)

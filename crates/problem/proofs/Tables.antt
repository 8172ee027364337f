-- Lists of places: what stands at a place, and a turn of the loop that writes them. Assumes nothing.
use mathlib.Core.Path.{◌≡◌, refl, sym, ap, ◌∙◌}
use mathlib.Core.List.{List, [], ◌∷◌, ◌++◌, map}
use Prim.Native.Nat.{ℕ, zero, suc, ◌+◌, ◌-◌, ◌*◌, ◌<◌, ◌≤◌}
use native.Mathlib.Nat.{not-suc-le-zero, le_of_suc-le-suc}
use native.Mathlib.Omega.{arith}
use lib.ListN.{length, get_or, take, drop, set, replicate, length-append, length-replicate, length-take, length-drop, length-map, get_or-append}
use lib.Seq.{get_or-append-add, set-append_left, take_all}
use Rattle.meaning.specs.Limits.{most_alternatives, opposite_from}
use Rattle.meaning.specs.Problem.{Alternative}
use Rattle.meaning.specs.Plain.{nowhere}
use Rattle.laws.proofs.Lists.{drop-replicate}
use Rattle.lent.proofs.Writing.{write-more}
use Rattle.problem.specs.declared.Edge.{Edge}
use Rattle.problem.specs.Arcs.{no_edge}
use Rattle.problem.specs.Loaded.{placed, edge_of, turned, edges_of}

-- ---- what stands at a place
module _ {A : Type 0} (z : A) where
  blank-at : (r k : ℕ) → get_or (replicate r z) k z ≡ z
  blank-at zero k = refl
  blank-at (suc r) zero = refl
  blank-at (suc r) (suc k) = blank-at r k

  filled-at : (l : List A) (r k : ℕ) → get_or (l ++ replicate r z) k z ≡ get_or l k z
  filled-at [] r k = blank-at r k
  filled-at (x ∷ l) r zero = refl
  filled-at (x ∷ l) r (suc k) = filled-at l r k

  pub placed_at : (w : ℕ) (l : List A) (k : ℕ) → get_or (placed z w l) k z ≡ get_or l k z
  placed_at w l k = filled-at l (w - length l) k

  placed-length : (w : ℕ) (l : List A) → length l ≤ w → length (placed z w l) ≡ w
  placed-length w l h = simp (length-append, length-replicate) (omega arith)

map_at : (f : Alternative → Edge) (l : List Alternative) (j : ℕ) → j < length l → get_or (map f l) j no_edge ≡ f (get_or l j nowhere)
map_at f [] j h = absurd (not-suc-le-zero h)
map_at f (a ∷ l) zero h = refl
map_at f (a ∷ l) (suc j) h = map_at f l j (le_of_suc-le-suc h)

module _ (made : List Alternative) (few : length made ≤ most_alternatives) where
  half_length : (g : Alternative → Edge) → length (placed no_edge most_alternatives (map g made)) ≡ most_alternatives
  half_length g = placed-length no_edge most_alternatives (map g made) (simp length-map (omega arith))

  pub edges-length : length (edges_of made) ≡ 2 * most_alternatives
  edges-length = length-append (placed no_edge most_alternatives (map edge_of made)) _ ∙ rw (half_length edge_of, half_length turned) refl

  pub edge-at : (j : ℕ) → j < length made → get_or (edges_of made) j no_edge ≡ edge_of (get_or made j nowhere)
  edge-at j h =
      get_or-append (placed no_edge most_alternatives (map edge_of made)) _ no_edge j (rw (half_length edge_of) (omega arith))
      ∙ placed_at no_edge most_alternatives (map edge_of made) j
      ∙ map_at edge_of made j h

  pub edge-turned : (j : ℕ) → j < length made → get_or (edges_of made) (opposite_from + j) no_edge ≡ turned (get_or made j nowhere)
  edge-turned j h =
      ap (λ (k : ℕ). get_or (edges_of made) (k + j) no_edge) (sym (half_length edge_of))
      ∙ get_or-append-add (placed no_edge most_alternatives (map edge_of made)) (placed no_edge most_alternatives (map turned made)) j no_edge
      ∙ placed_at no_edge most_alternatives (map turned made) j
      ∙ map_at turned made j h

-- ---- the loop: n places of each half are written
half : ℕ → List Edge → List Edge
half n t = take n t ++ drop n (replicate most_alternatives no_edge)

half-size : (n : ℕ) (t : List Edge) → n ≤ length t → n ≤ most_alternatives → length (half n t) ≡ most_alternatives
unfolding half
half-size n t l m = simp (length-append, length-take, length-drop, length-replicate) (omega arith)

half-more : (n : ℕ) (v : Edge) (t : List Edge) → n < length t → n < most_alternatives → v ≡ get_or t n no_edge → set (half n t) n v ≡ half (n + 1) t
unfolding half
half-more n v t l m e = write-more n v no_edge (half n t) t (replicate most_alternatives no_edge) refl l (simp length-replicate m) e

half-all : (n : ℕ) (t : List Edge) → n ≡ length t → half n t ≡ placed no_edge most_alternatives t
unfolding half
half-all n t e = rw (take_all n t (omega arith), drop-replicate {A = Edge} n most_alternatives no_edge, e) refl

halves : ℕ → List Edge → List Edge → List Edge
halves n t u = half n t ++ half n u

halves-more : (n : ℕ) (v w : Edge) (t u : List Edge) → n < length t → n < length u → n < most_alternatives → v ≡ get_or t n no_edge → w ≡ get_or u n no_edge → set (set (halves n t u) n v) (opposite_from + n) w ≡ halves (n + 1) t u
unfolding halves
halves-more n v w t u l m k p q =
    let size : length (half (n + 1) t) ≡ most_alternatives = half-size (n + 1) t (omega arith) (omega arith) in
    ap (λ (x : List Edge). set x (opposite_from + n) w) (set-append_left (half n t) (half n u) n v (rw (half-size n t (omega arith) (omega arith)) k) ∙ ap (λ (x : List Edge). x ++ half n u) (half-more n v t l k p))
    ∙ ap (λ (x : ℕ). set (half (n + 1) t ++ half n u) (x + n) w) (sym size)
    ∙ set-append-add (half (n + 1) t) (half n u) n w
    ∙ ap (λ (x : List Edge). half (n + 1) t ++ x) (half-more n w u m k q)
  where
    set-append-add : (xs ys : List Edge) (i : ℕ) (a : Edge) → set (xs ++ ys) (length xs + i) a ≡ xs ++ set ys i a
    set-append-add [] ys i a = let z : 0 + i ≡ i = omega arith in rw z refl
    set-append-add (x ∷ xs) ys i a = let z : suc (length xs) + i ≡ suc (length xs + i) = omega arith in rw z (ap (λ (l : List Edge). x ∷ l) (set-append-add xs ys i a))

-- the first n alternatives of those made stand in the list
pub record Written (made : List Alternative) (n : ℕ) (s : List Edge) : Type 0 where
  is : s ≡ halves n (map edge_of made) (map turned made)

pub written_none : (made : List Alternative) → Written made 0 (replicate (2 * most_alternatives) no_edge)
unfolding halves half
written_none made = record { is = refl }

-- a turn writes alternative n and its opposite
pub written-more : (made : List Alternative) (n : ℕ) (v w : Edge) (s : List Edge) → Written made n s → length made ≤ most_alternatives → n < length made → v ≡ edge_of (get_or made n nowhere) → w ≡ turned (get_or made n nowhere) → Written made (n + 1) (set (set s n v) (opposite_from + n) w)
written-more made n v w s r few l p q =
    record {
      is =
          ap (λ (x : List Edge). set (set x n v) (opposite_from + n) w) r.is
          ∙ halves-more n v w (map edge_of made) (map turned made) (simp length-map l) (simp length-map l) (omega arith) (p ∙ sym (map_at edge_of made n l)) (q ∙ sym (map_at turned made n l));
    }

pub written_all : (made : List Alternative) (n : ℕ) (s : List Edge) → Written made n s → n ≡ length made → s ≡ edges_of made
unfolding halves
written_all made n s r e = r.is ∙ rw (half-all n (map edge_of made) (simp length-map e), half-all n (map turned made) (simp length-map e)) refl

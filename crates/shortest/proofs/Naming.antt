-- The join with the meaning: closed rows of arcs are the meaning's closed walks, so the best row of all events names the shortest reason. Assumes nothing.
use mathlib.Core.Path.{◌≡◌, refl, sym, ap, ◌∙◌, subst}
use mathlib.Core.Bool.{false}
use mathlib.Core.Option.{some}
use mathlib.Core.List.{List, [], ◌∷◌, map}
use Prim.Native.Nat.{ℕ, ◌+◌, ◌*◌, ◌≤◌, ◌<◌}
use native.Mathlib.Omega.{arith}
use lib.Dec.{T}
use lib.ListN.{length}
use Rattle.laws.proofs.Integers.{sub-law}
use Rattle.std.specs.Option.{IsSomeAnd}
use Rattle.std.proofs.Common.{Option, Some, None}
use Rattle.meaning.specs.Limits.{row_bytes}
use Rattle.meaning.specs.Problem.{Alternative}
use Rattle.meaning.specs.Decision.{sound}
use Rattle.meaning.specs.Search.{cycle}
use Rattle.meaning.specs.Reasons.{named, loops}
use Rattle.meaning.specs.Shortest.{Shortest, shortest}
use Rattle.meaning.specs.Listing.{padded, row_of}
use Rattle.meaning.proofs.Ways.{bound_of, Way, rise, fall, loops-loop, loop-loops}
use Rattle.meaning.proofs.Numbered.{Numbered, Own, named-each, numbered-own}
use Rattle.meaning.proofs.Reasoning.{shortest-is, shortest-one, shortest-few}
use Rattle.problem.specs.Arcs.{Net, head, tail, bound, bias, arc}
use Rattle.facts.specs.Tests.{Within, IsFact}
use Rattle.facts.proofs.Joining.{each-fact, fact-each, within_in}
use Rattle.shortest.specs.Paths.{Path, sum, From, Fewest}
use Rattle.shortest.specs.Best.{RowBelow, Best}
use Rattle.shortest.proofs.Choosing.{best-first}

-- ---- facts and their numbers
module _ (g : Net) (L : List ℕ) where
  -- arcs are told apart by their numbers
  pub arcs-numbered : Numbered (arc g) (map (arc g) L)
  arcs-numbered = each-fact g (λ a. arc g a.no ≡ a) L (λ i l. refl)

  -- a fact is found by its number
  fact-named : (j : ℕ) → IsFact L j → named (map (arc g) L) j ≡ some (arc g j)
  fact-named j f = subst (λ (k : ℕ). named (map (arc g) L) k ≡ some (arc g k)) f.same (fact-each g (Own (map (arc g) L)) L (numbered-own (arc g) (map (arc g) L) arcs-numbered) f.place f.below)

  -- and what is found by a number is the fact
  named-fact : (j : ℕ) (a : Alternative) → named (map (arc g) L) j ≡ some a → IsFact L j × (a ≡ arc g j)
  named-fact j a e =
      let ((f, s), q) = named-each (λ a. IsFact L a.no × (arc g a.no ≡ a)) (map (arc g) L) j a (each-fact g (λ a. IsFact L a.no × (arc g a.no ≡ a)) L (λ i l. (record { place = i; below = l; same = refl }, refl))) e in
      (subst (IsFact L) q f, sym s ∙ ap (arc g) q)

  -- ---- rows and walks
  path-way : (l : List ℕ) (u v : ℕ) → Path g L u l v → Way (map (arc g) L) u l v
  path-way [] u v p = p
  path-way (j ∷ l) u v (f, e, p) = (arc g j, fact-named j f, e, path-way l (head g j) v p)

  way-path : (l : List ℕ) (u v : ℕ) → Way (map (arc g) L) u l v → Path g L u l v
  way-path [] u v p = p
  way-path (j ∷ l) u v (a, e, f, p) =
      let (i, r) = named-fact j a e in
      (i, ap (λ (x : Alternative). x.y) (sym r) ∙ f, way-path l (head g j) v (subst (λ (x : Alternative). Way (map (arc g) L) x.x l v) r p))

  path-sum : (l : List ℕ) (u v : ℕ) → Path g L u l v → rise (map (arc g) L) l + length l * bias ≡ fall (map (arc g) L) l + sum g l
  unfolding rise fall bound_of
  path-sum [] u v p = refl
  path-sum (j ∷ l) u v (f, e, p) = rw (fact-named j f) (omega (arith, sub-law (bound g j) bias, path-sum l (head g j) v p))

  pub from-loops : (v : ℕ) (l : List ℕ) → From g L v l → T (loops (map (arc g) L) l)
  from-loops v l f = loop-loops (map (arc g) L) l (record { node = v; way = path-way l v v f.path; below = omega (arith, path-sum l v v f.path, f.negative) })

  pub loops-from : (l : List ℕ) → T (loops (map (arc g) L) l) → (v : ℕ) × From g L v l
  loops-from l t =
      let r = loops-loop (map (arc g) L) l t in
      let p = way-path l r.node r.node r.way in
      (r.node, record { path = p; negative = omega (arith, path-sum l r.node r.node p, r.below) })

  -- ---- the best row of all events
  module _ (n : ℕ) (w : Within g L n) where
    -- a closed row starts at one of the events
    from-event : (v : ℕ) (l : List ℕ) → From g L v l → v < n
    from-event v [] f = absurd (omega (arith, f.negative))
    from-event v (j ∷ l) f = go f.path
      where
        go : Path g L v (j ∷ l) v → v < n
        go (i, e, p) = omega (arith, e, ap (λ (x : ℕ). tail g x) i.same, (w.known.each i.place i.below).in_tail)

    -- facts with no timetable have a closed row of at most n
    pub some-few : sound (map (arc g) L) ≡ false → (v : ℕ) × (l : List ℕ) × From g L v l × (length l ≤ n)
    some-few e =
        let l = shortest (map (arc g) L) in
        let (v, f) = loops-from l (shortest-is (arc g) (map (arc g) L) arcs-numbered e).closed in
        (v, l, f, shortest-few (arc g) (map (arc g) L) arcs-numbered e n (within_in g L n w))

    module _ (size : ℕ) (wide : size ≤ row_bytes) (few : Fewest g L size) where
      best-shortest : (row : List ℕ) → Best g L n size (Some row) → (r : RowBelow g L n size row) → Shortest (map (arc g) L) r.found.list
      best-shortest row b r =
          record {
            closed = from-loops r.event r.found.list r.found.first.closed;
            fewest = λ l t. let (v, f) = loops-from l t in omega (arith, few.none v l f, r.found.long);
            first = λ l t e. let (v, f) = loops-from l t in best-first g L n size row wide b r v (from-event v l f) l f (e ∙ r.found.long);
          }

      -- a closed row has as many facts, so the best row is there; it is a shortest reason, and there is only one
      pub best-names : (best : Option (List ℕ)) → Best g L n size best → sound (map (arc g) L) ≡ false → IsSomeAnd best (λ row. row ≡ row_of row_bytes (cycle (map (arc g) L)))
      unfolding row_of
      best-names (Some row) b e =
          let r = b.some in
          r.found.bytes ∙ ap (padded row_bytes) (shortest-one (arc g) (map (arc g) L) arcs-numbered e r.found.list (best-shortest row b r))
      best-names None b e = let r = few.row in elim (b.least few.event (from-event few.event r.list r.closed) r.list r.closed r.long) [ ]

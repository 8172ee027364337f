-- An accepted input, as a problem by value, reads as the clauses that were lent. Assumes nothing.
use mathlib.Core.Path.{◌≡◌, refl, sym, ap, ◌∙◌}
use mathlib.Core.List.{List, [], ◌∷◌, map}
use Prim.Native.Nat.{ℕ, zero, suc, ◌+◌, ◌-◌, ◌*◌, ◌/◌, ◌<◌, ◌≤◌}
use native.Mathlib.Omega.{arith}
use lib.IntN.{ℤ, pos, nat_abs, sub_ℕ, ◌+ℤ◌}
use lib.ListN.{length, get_or, take, drop, get_or-map, length-map}
use lib.Seq.{drop-cons, ext_get_or}
use Rattle.meaning.specs.Limits.{most_clauses, most_in_clause, most_alternatives, most_bound, opposite_from}
use Rattle.meaning.specs.Problem.{Alternative, opposite}
use Rattle.meaning.specs.Plain.{nowhere}
use Rattle.meaning.specs.Screen.{Lent, alternatives, clauses_of}
use Rattle.meaning.proofs.Accepted.{Passes, parted-length, alternatives-count}
use Rattle.problem.specs.Arcs.{Net, net, no_edge, at, bias, head, tail, bound, arc, Arc, arcs_from}
use Rattle.problem.specs.declared.Edge.{Edge}
use Rattle.problem.specs.declared.Problem.{Problem}
use Rattle.problem.specs.Layout.{Layout}
use Rattle.problem.specs.Laid.{clause_of, clauses_in}
use Rattle.problem.specs.Reads.{Reads}
use Rattle.problem.specs.Loaded.{placed, biased, edge_of, turned, edges_of, Loadable, IsLoaded}
use Rattle.problem.proofs.Laying.{clauses-length, clause-of}
use Rattle.problem.proofs.Triples.{alternative_at, alternative-at, events-at, bounds-at}
use Rattle.problem.proofs.Counts.{count-rises, count_under, count-ends, parted-at}
use Rattle.problem.proofs.Lifting.{Lifts, lifts, lifts-opposite, unbiased}
use Rattle.problem.proofs.Tables.{placed_at, edge-at, edge-turned, edges-length}

-- ---- what the code asks of an accepted input
-- what `load` asks
pub loadable : (l : Lent) → Passes l → Loadable l.triples
loadable l p = record { few = p.all; n = l.n; most = p.most; events = p.events; bounds = p.bounds }

-- what `starts_of` asks
pub counts-small : (l : Lent) → Passes l → (k : ℕ) → k < length l.counts → at l.counts k ≤ most_alternatives
counts-small l p k h =
    let all = p.all in
    omega (arith, count_under (length l.triples / 3) 0 l.counts p.steps (suc k) h)

-- ---- an alternative, or the opposite of one, that stands in a net
record Stands (g : Net) (i : ℕ) (a : Alternative) : Type 0 where
  no : a.no ≡ i
  x : head g i ≡ a.x
  y : tail g i ≡ a.y
  b : bound g i ≡ biased a
  lifts : Lifts a.c

-- it is the net's arc of that number
stands-is : (g : Net) (i : ℕ) (a : Alternative) → Stands g i a → a ≡ arc g i
stands-is g i a s =
    let made : ℕ → ℕ → ℕ → ℤ → Alternative = λ (n x y : ℕ) (c : ℤ). record { no = n; x = x; y = y; c = c } in
    ap (λ (k : ℕ). made k a.x a.y a.c) s.no
    ∙ ap (λ (k : ℕ). made i k a.y a.c) (sym s.x)
    ∙ ap (λ (k : ℕ). made i (head g i) k a.c) (sym s.y)
    ∙ ap (λ (z : ℤ). made i (head g i) (tail g i) z) (sym (unbiased a.c s.lifts) ∙ ap (λ (k : ℕ). sub_ℕ k bias) (sym s.b))

-- and within the net's ranges
stands-within : (g : Net) (n i : ℕ) (a : Alternative) → Stands g i a → a.x < n → a.y < n → i < length g.xs → i < length g.ys → i < length g.bs → Arc g n i
stands-within g n i a s x y p q r =
    record {
      in-xs = p;
      in_ys = q;
      in-bs = r;
      in_head = rw s.x x;
      in_tail = rw s.y y;
      small = rw (s.b ∙ ap nat_abs s.lifts.is) s.lifts.small;
    }

-- a run of alternatives that stand in a net, as arcs
arcs-from : (g : Net) (made : List Alternative) → ((j : ℕ) → j < length made → get_or made j nowhere ≡ arc g j) → (n j : ℕ) → j + n ≤ length made → take n (drop j made) ≡ arcs_from g j n
unfolding arcs_from
arcs-from g made f zero j h = refl
arcs-from g made f (suc n) j h =
    ap (λ (r : List Alternative). take (suc n) r) (drop-cons made j nowhere (omega arith))
    ∙ ap (λ (a : Alternative). a ∷ take n (drop (suc j) made)) (f j (omega arith))
    ∙ ap (λ (r : List Alternative). arc g j ∷ r) (arcs-from g made f n (suc j) (omega arith))

-- ---- the accepted problem
module _ (l : Lent) (p : Passes l) where
  abbrev made : List Alternative
  made = alternatives 0 l.triples

  abbrev last : ℕ
  last = length l.triples / 3

  abbrev alternative : ℕ → Alternative
  alternative j = alternative_at l.triples j

  abbrev starts : List ℕ
  starts = placed 0 (suc most_clauses) (0 ∷ l.counts)

  all : last ≤ most_alternatives
  all = let h = p.all in omega arith

  many : length made ≡ last
  many = alternatives-count 0 l.triples

  few : length made ≤ most_alternatives
  few = omega (arith, all, many)

  in_list : (j : ℕ) → j < last → j * 3 + 2 < length l.triples
  in_list j h = let w = p.whole in omega arith

  made_at : (j : ℕ) → j < last → get_or made j nowhere ≡ alternative j
  made_at j h = alternative-at j l.triples (in_list j h)

  alternative-bound : (j : ℕ) → j < last → nat_abs (alternative j).c ≤ most_bound
  alternative-bound j h = bounds-at l.triples p.bounds j (in_list j h)

  alternative-x : (j : ℕ) → j < last → (alternative j).x < l.n
  alternative-x j h = let e = (events-at l.n l.triples p.events j (in_list j h)).0 in rw e.1.0 e.1.1

  alternative-y : (j : ℕ) → j < last → (alternative j).y < l.n
  alternative-y j h = let e = (events-at l.n l.triples p.events j (in_list j h)).1 in rw e.1.0 e.1.1

  -- what the accepted problem holds
  abbrev edges : List Edge
  edges = edges_of made

  -- alternative j and its opposite stand in it
  stands : (j : ℕ) → j < last → Stands (net edges) j (alternative j)
  stands j h =
      let k : j < length made = omega (arith, many) in
      let e : get_or edges j no_edge ≡ edge_of (alternative j) = edge-at made few j k ∙ ap edge_of (made_at j h) in
      record {
        no = refl;
        x = get_or-map (λ (a : Edge). a.x) edges j no_edge ∙ ap (λ (a : Edge). a.x) e;
        y = get_or-map (λ (a : Edge). a.y) edges j no_edge ∙ ap (λ (a : Edge). a.y) e;
        b = get_or-map (λ (a : Edge). a.b) edges j no_edge ∙ ap (λ (a : Edge). a.b) e;
        lifts = lifts (alternative j).c (alternative-bound j h);
      }

  stands-turned : (j : ℕ) → j < last → Stands (net edges) (opposite_from + j) (opposite (alternative j))
  unfolding opposite
  stands-turned j h =
      let k : j < length made = omega (arith, many) in
      let e : get_or edges (opposite_from + j) no_edge ≡ turned (alternative j) = edge-turned made few j k ∙ ap turned (made_at j h) in
      let c = alternative-bound j h in
      record {
        no = refl;
        x = get_or-map (λ (a : Edge). a.x) edges (opposite_from + j) no_edge ∙ ap (λ (a : Edge). a.x) e;
        y = get_or-map (λ (a : Edge). a.y) edges (opposite_from + j) no_edge ∙ ap (λ (a : Edge). a.y) e;
        b = get_or-map (λ (a : Edge). a.b) edges (opposite_from + j) no_edge ∙ ap (λ (a : Edge). a.b) e;
        lifts = record { b = 2 * most_bound + 1 - nat_abs ((alternative j).c +ℤ pos bias); is = lifts-opposite (alternative j).c c; small = omega arith };
      }

  starts-at : (k : ℕ) → at starts k ≡ at (0 ∷ l.counts) k
  starts-at k = placed_at 0 (suc most_clauses) (0 ∷ l.counts) k

  starts-end : at starts (length l.counts) ≡ last
  starts-end = starts-at (length l.counts) ∙ count-ends last 0 l.counts p.steps

  start-rises : (k : ℕ) → k < length l.counts → (at starts k ≤ at starts (suc k)) × (at starts (suc k) ≤ at starts k + most_in_clause)
  start-rises k h =
      let r = count-rises last 0 l.counts p.steps k h in
      (rw (starts-at k, starts-at (suc k)) r.0, rw (starts-at k, starts-at (suc k)) r.1)

  start_under : (k : ℕ) → k ≤ length l.counts → at starts k ≤ last
  start_under k h = rw (starts-at k) (count_under last 0 l.counts p.steps k h)

  clause-is : (k : ℕ) → k < length l.counts → get_or (clauses_of l) k [] ≡ arcs_from (net edges) (at starts k) (at starts (suc k) - at starts k)
  unfolding clauses_of
  clause-is k h =
      let g : Net = net edges in
      let up = (start-rises k h).0 in
      let under = start_under (suc k) h in
      parted-at last 0 l.counts made p.steps k h
      ∙ ap (λ (s : ℕ). take (at (0 ∷ l.counts) (suc k) - s) (drop s made)) (sym (starts-at k))
      ∙ ap (λ (e : ℕ). take (e - at starts k) (drop (at starts k) made)) (sym (starts-at (suc k)))
      ∙ arcs-from g made (λ j i. made_at j (omega (arith, many)) ∙ stands-is g j (alternative j) (stands j (omega (arith, many)))) (at starts (suc k) - at starts k) (at starts k) (omega (arith, many))

  within : (f : Edge → ℕ) (i : ℕ) → i < 2 * most_alternatives → i < length (map f edges)
  within f i h = omega (arith, length-map edges f ∙ edges-length made few)

  many-clauses : length (clauses_of l) ≡ length l.counts
  unfolding clauses_of
  many-clauses = parted-length 0 l.counts made

  pub laid_out : Layout l.n (length l.counts) starts edges
  unfolding opposite
  laid_out =
      let g : Net = net edges in
      let inside : (j : ℕ) → j < at starts (length l.counts) → j < last = λ j h. omega (arith, starts-end) in
      record {
        some = p.some;
        most = p.most;
        few = p.few;
        begins = refl;
        rises = start-rises;
        ends = λ k h. omega (arith, start_under k h, starts-end);
        last = omega (arith, starts-end, all);
        full = edges-length made few;
        alternative = λ j h. let i = inside j h in stands-within g l.n j (alternative j) (stands j i) (alternative-x j i) (alternative-y j i) (within _ j (omega (arith, all))) (within _ j (omega (arith, all))) (within _ j (omega (arith, all)));
        turned = λ j h. let i = inside j h in stands-within g l.n (opposite_from + j) (opposite (alternative j)) (stands-turned j i) (alternative-y j i) (alternative-x j i) (within _ (opposite_from + j) (omega (arith, all))) (within _ (opposite_from + j) (omega (arith, all))) (within _ (opposite_from + j) (omega (arith, all)));
        opposites = λ j h. let i = inside j h in ap opposite (sym (stands-is g j (alternative j) (stands j i))) ∙ stands-is g (opposite_from + j) (opposite (alternative j)) (stands-turned j i);
      }

  -- a problem that is loaded from the input reads as its clauses
  pub reads : (q : Problem) → IsLoaded l q → Reads l q
  reads q is =
      let laid-clause : (k : ℕ) → clause_of q k ≡ arcs_from (net edges) (at starts k) (at starts (suc k) - at starts k) = λ k. rw (is.arcs, is.starts) refl in
      let length-is : length (clauses_in q) ≡ length l.counts = clauses-length q 0 q.m ∙ is.m in
      record {
        events = is.n;
        clauses = ext_get_or [] (clauses_of l) (clauses_in q) (many-clauses ∙ sym length-is) (λ k h. let i : k < length l.counts = rw many-clauses at h in clause-is k i ∙ sym (clause-of q k (rw is.m i) ∙ laid-clause k));
      }

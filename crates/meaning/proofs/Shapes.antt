-- The shape of the shortest reason: there is one at the most, it starts at its smallest number, and no two of its arcs start at one event; so it repeats no number, and
-- has no more of them than there are events.
-- Assumes nothing.
use mathlib.Core.Path.{◌≡◌, refl, sym, ap, ◌∙◌, subst}
use mathlib.Core.Option.{Option, some, none}
use mathlib.Core.Logic.{◌⊎◌, inl, inr}
use mathlib.Core.List.{List, [], ◌∷◌, ◌++◌}
use Prim.Native.Nat.{ℕ, ◌+◌, ◌-◌, ◌≤◌, ◌<◌}
use native.Mathlib.Omega.{arith}
use native.Mathlib.Decide.{dec_lt}
use lib.Dec.{T}
use lib.ListN.{length, take, drop, length-append, length-take, length-drop, take-append-drop}
use lib.Seq.{drop-cons, drop-drop, get_or-take}
use Rattle.meaning.specs.Problem.{Alternative}
use Rattle.meaning.specs.Plain.{◌≺◌}
use Rattle.meaning.specs.Decision.{at}
use Rattle.meaning.specs.Reasons.{named, loops}
use Rattle.meaning.specs.Shortest.{Shortest, FromSmallest}
use Rattle.meaning.proofs.Dictionary.{in-order, before_head}
use Rattle.meaning.proofs.Settling.{Each, In}
use Rattle.meaning.proofs.Pigeon.{pigeon}
use Rattle.meaning.proofs.Numbered.{named-each}
use Rattle.meaning.proofs.Ways.{Way, rise, fall, Loop, rise-append, fall-append, way-join, way-part, loops-loop, loop-loops}

-- there is one shortest reason at the most
pub one-shortest : (fs : List Alternative) (l m : List ℕ) → Shortest fs l → Shortest fs m → l ≡ m
one-shortest fs l m p q = go (in-order l m same)
  where
    same : length l ≡ length m
    same = omega (arith, p.fewest m q.closed, q.fewest l p.closed)

    go : (l ≺ m) ⊎ ((l ≡ m) ⊎ (m ≺ l)) → l ≡ m
    go (inl h) = absurd (q.first l p.closed same h)
    go (inr (inl h)) = h
    go (inr (inr h)) = absurd (p.first m q.closed (sym same) h)

-- the same list from place i on, then the part before
unfoldable pub turn : ℕ → List ℕ → List ℕ
turn i l = drop i l ++ take i l

module _ (fs : List Alternative) where
  -- a closed way read from another of its arcs
  pub turned : (a b : List ℕ) → Loop fs (a ++ b) → Loop fs (b ++ a)
  turned a b r =
      let (v, p, q) = way-part fs a b r.node r.node r.way in
      record {
        node = v;
        way = way-join fs b a v r.node v q p;
        below = omega (arith, r.below, rise-append fs a b, rise-append fs b a, fall-append fs a b, fall-append fs b a);
      }

  pub turn-loops : (i : ℕ) (l : List ℕ) → T (loops fs l) → T (loops fs (turn i l))
  unfolding turn
  turn-loops i l t =
      loop-loops fs (drop i l ++ take i l)
      (turned (take i l) (drop i l) (subst (Loop fs) (sym (take-append-drop i l)) (loops-loop fs l t)))

  pub turn-length : (i : ℕ) (l : List ℕ) → length (turn i l) ≡ length l
  unfolding turn
  turn-length i l = omega (arith, length-append (drop i l) (take i l), length-append (take i l) (drop i l), ap length (take-append-drop i l))

  pub turn-head : (i : ℕ) (l : List ℕ) → i < length l → at (turn i l) 0 ≡ at l i
  unfolding turn
  turn-head i l h = rw (drop-cons l i 0 h) refl

  -- a place with a smaller number than the first: read from there it comes before
  pub turn-before : (i : ℕ) (l : List ℕ) → i < length l → at l i < at l 0 → turn i l ≺ l
  turn-before i l h k = before_head (turn i l) l (omega (arith, turn-length i l)) (omega arith) (omega (arith, turn-head i l h))

  pub starts-smallest : (row : List ℕ) → Shortest fs row → FromSmallest row
  starts-smallest row s = record { smallest = λ i h. go i h (dec_lt (at row i) (at row 0)) }
    where
      go : (i : ℕ) → i < length row → Dec (at row i < at row 0) → at row 0 ≤ at row i
      go i h (yes k) = absurd (s.first (turn i row) (turn-loops i row s.closed) (turn-length i row) (turn-before i row h k))
      go i h (no k) = omega (arith, k)

  -- a closed part of a closed way, and what is left without it: one of the two has a sum below 0
  pub parted : (a b c : List ℕ) (u v : ℕ) → Way fs u a v → Way fs v b v → Way fs v c u → rise fs (a ++ (b ++ c)) < fall fs (a ++ (b ++ c)) → Loop fs b ⊎ Loop fs (a ++ c)
  parted a b c u v p q r n = go (dec_lt (rise fs b) (fall fs b))
    where
      go : Dec (rise fs b < fall fs b) → Loop fs b ⊎ Loop fs (a ++ c)
      go (yes h) = inl (record { node = v; way = q; below = h })
      go (no h) =
          inr
          (record {
            node = u;
            way = way-join fs a c u v u p r;
            below = omega (arith, n, h, rise-append fs a (b ++ c), rise-append fs b c, rise-append fs a c, fall-append fs a (b ++ c), fall-append fs b c, fall-append fs a c);
          })

  -- a closed walk of the fewest arcs visits no event twice, so it is a cycle in the strict sense: no part of it but the whole is closed
  pub visits-once : (a b c : List ℕ) (u v : ℕ) → T (loops fs (a ++ (b ++ c))) → ((l : List ℕ) → T (loops fs l) → length (a ++ (b ++ c)) ≤ length l) → Way fs u a v → Way fs v b v → Way fs v c u → 0 < length b → 0 < length a + length c → ⊥
  visits-once a b c u v t s p q r h k = go (parted a b c u v p q r (loops-loop fs (a ++ (b ++ c)) t).below)
    where
      go : Loop fs b ⊎ Loop fs (a ++ c) → ⊥
      go (inl g) = omega (arith, s b (loop-loops fs b g), length-append a (b ++ c), length-append b c)
      go (inr g) = omega (arith, s (a ++ c) (loop-loops fs (a ++ c) g), length-append a (b ++ c), length-append b c, length-append a c)

  -- ---- the events at which its arcs start
  -- the event at which a fact starts
  unfoldable start_of : Option Alternative → ℕ
  start_of none = 0
  start_of (some a) = a.y

  from : List ℕ → ℕ → ℕ
  from l i = start_of (named fs (at l i))

  way-from : (l : List ℕ) (v w : ℕ) → 0 < length l → Way fs v l w → (a : Alternative) × (named fs (at l 0) ≡ some a) × (a.y ≡ v)
  way-from [] v w h p = absurd (omega arith)
  way-from (b ∷ bs) v w h (a, e, f, p) = (a, e, f)

  starts-at : (l : List ℕ) (v w : ℕ) → 0 < length l → Way fs v l w → from l 0 ≡ v
  unfolding from start_of
  starts-at l v w h p = let (a, e, f) = way-from l v w h p in ap start_of e ∙ f

  from-drop : (i : ℕ) (l : List ℕ) → i < length l → from (drop i l) 0 ≡ from l i
  unfolding from
  from-drop i l h = ap (λ (b : ℕ). start_of (named fs b)) (rw (drop-cons l i 0 h) refl)

  -- no two parts of it start at one event: the part between would be closed
  parts-apart : (a b c : List ℕ) → T (loops fs (a ++ (b ++ c))) → ((l : List ℕ) → T (loops fs l) → length (a ++ (b ++ c)) ≤ length l) → 0 < length b → 0 < length c → from b 0 ≡ from c 0 → ⊥
  parts-apart a b c t s h k e =
      let r = loops-loop fs (a ++ (b ++ c)) t in
      let (v, p, q) = way-part fs a (b ++ c) r.node r.node r.way in
      let (w, x, y) = way-part fs b c v r.node q in
      let f : v ≡ w = sym (starts-at b v w h x) ∙ e ∙ starts-at c w r.node k y in
      visits-once a b c r.node v t s p (subst (λ (z : ℕ). Way fs v b z) (sym f) x) (subst (λ (z : ℕ). Way fs z c r.node) (sym f) y) h (omega arith)

  module _ (row : List ℕ) (t : T (loops fs row)) (s : (l : List ℕ) → T (loops fs l) → length row ≤ length l) where
    -- no two of its arcs start at one event
    starts_apart : (i j : ℕ) → i < j → j < length row → from row i ≡ from row j → ⊥
    unfolding from
    starts_apart i j h k e =
        parts-apart (take i row) (take (j - i) (drop i row)) (drop j row) (subst (λ (l : List ℕ). T (loops fs l)) (sym whole) t) (subst (λ (l : List ℕ). (m : List ℕ) → T (loops fs m) → length l ≤ length m) (sym whole) s)
        (simp (length-take, length-drop) (omega arith)) (simp length-drop (omega arith))
        (ap (λ (b : ℕ). start_of (named fs b)) (get_or-take (j - i) (drop i row) 0 0 (omega arith)) ∙ from-drop i row (omega arith) ∙ e ∙ sym (from-drop j row k))
      where
        tail : take (j - i) (drop i row) ++ drop j row ≡ drop i row
        tail =
            let f : i + (j - i) ≡ j = omega arith in
            ap (λ (m : List ℕ). take (j - i) (drop i row) ++ m) (sym (drop-drop (j - i) i row ∙ ap (λ (m : ℕ). drop m row) f)) ∙ take-append-drop (j - i) (drop i row)

        whole : take i row ++ (take (j - i) (drop i row) ++ drop j row) ≡ row
        whole = ap (λ (m : List ℕ). take i row ++ m) tail ∙ take-append-drop i row

    -- each of its arcs is a fact
    from-below : (n : ℕ) → Each (In n) fs → (i : ℕ) → i < length row → from row i < n
    from-below n inside i h =
        let r = loops-loop fs row t in
        let (v, p, q) = way-part fs (take i row) (drop i row) r.node r.node (subst (λ (l : List ℕ). Way fs r.node l r.node) (sym (take-append-drop i row)) r.way) in
        let (a, e, f) = way-from (drop i row) v r.node (simp length-drop (omega arith)) q in
        let k = (named-each (In n) fs (at (drop i row) 0) a inside e).0.1 in
        omega (arith, k, f, starts-at (drop i row) v r.node (simp length-drop (omega arith)) q, from-drop i row h)

    -- so it has no more arcs than there are events: of more, two would start at one
    pub few-arcs : (n : ℕ) → Each (In n) fs → length row ≤ n
    few-arcs n inside = go (dec_lt n (length row))
      where
        go : Dec (n < length row) → length row ≤ n
        go (yes l) = absurd (pigeon n (from row) (λ k h. from-below n inside k (omega arith)) (λ i j h k e. starts_apart i j h (omega arith) e))
        go (no l) = omega (arith, l)

  -- it names no fact twice
  pub repeats-none : (row : List ℕ) → Shortest fs row → (i j : ℕ) → i < j → j < length row → at row i ≡ at row j → ⊥
  repeats-none row s i j h k e = starts_apart row s.closed s.fewest i j h k (unfold from in ap (λ (b : ℕ). start_of (named fs b)) e)

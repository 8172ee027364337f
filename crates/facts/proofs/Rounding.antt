-- The laws of rounds: a round raises no time but by a fact, exactly, and none above a timetable that keeps the facts; times that a round leaves as they are keep them.
-- Assumes nothing.
use Prim.Native.Nat.{ℕ, zero, suc, ◌+◌, ◌*◌, ◌-◌, ◌≤◌, ◌<◌, max}
use mathlib.Core.Path.{◌≡◌, refl, sym, ap, ◌∙◌, subst}
use mathlib.Core.List.{List}
use mathlib.Core.Logic.{◌⊎◌, inl, inr}
use native.Mathlib.Omega.{arith}
use native.Mathlib.Decide.{dec_lt, ℕ_discrete}
use native.Mathlib.Nat.{add-zero, add-suc}
use lib.ListN.{length, length-set}
use lib.Seq.{get_or-set_same, get_or-set_other, ext_get_or}
use Rattle.problem.specs.Arcs.{bias, at, Net, head, tail, bound}
use Rattle.facts.specs.Tests.{Within}
use Rattle.facts.specs.Rounds.{Holds, Under, relax, upto, round, rows, Raised}

-- ---- one fact
module _ (g : Net) (s : List ℕ) (j : ℕ) (nxt : List ℕ) where
  relax-length : length (relax g s j nxt) ≡ length nxt
  unfolding relax
  relax-length = simp length-set

  relax-head : head g j < length nxt → at (relax g s j nxt) (head g j) ≡ max (at nxt (head g j)) (at s (tail g j) + bias - bound g j)
  unfolding relax
  relax-head h = get_or-set_same nxt (head g j) _ 0 h

  relax-other : (v : ℕ) → (v ≡ head g j → ⊥) → at (relax g s j nxt) v ≡ at nxt v
  unfolding relax
  relax-other v h = get_or-set_other nxt (head g j) v _ 0 h

  -- the arc has raised v to the value that it gives its head
  Lifts : ℕ → Type 0
  Lifts v = (v ≡ head g j) × (at (relax g s j nxt) v + bound g j ≡ at s (tail g j) + bias) × (at nxt v < at (relax g s j nxt) v)

  -- where a fact leaves an event: as it was, or raised
  relax-cases : head g j < length nxt → (v : ℕ) → (at (relax g s j nxt) v ≡ at nxt v) ⊎ Lifts v
  unfolding Lifts
  relax-cases h v = go (ℕ_discrete v (head g j)) (dec_lt (at nxt (head g j)) (at s (tail g j) + bias - bound g j))
    where
      go : Dec (v ≡ head g j) → Dec (at nxt (head g j) < at s (tail g j) + bias - bound g j) → (at (relax g s j nxt) v ≡ at nxt v) ⊎ Lifts v
      go (no d) m = inl (relax-other v d)
      go (yes e) (yes m) = inr (e, rw e (omega (arith, relax-head h)), rw e (omega (arith, relax-head h)))
      go (yes e) (no m) = inl (rw e (omega (arith, relax-head h)))

  relax-grows : head g j < length nxt → (v : ℕ) → at nxt v ≤ at (relax g s j nxt) v
  unfolding Lifts
  relax-grows h v = go (relax-cases h v)
    where
      go : (at (relax g s j nxt) v ≡ at nxt v) ⊎ Lifts v → at nxt v ≤ at (relax g s j nxt) v
      go (inl e) = omega arith
      go (inr e) = omega arith

-- ---- one round
pub upto-length : (g : Net) (L s : List ℕ) (i : ℕ) → length (upto g L s i) ≡ length s
unfolding upto
upto-length g L s zero = refl
upto-length g L s (suc i) = relax-length g s (at L i) (upto g L s i) ∙ upto-length g L s i

module _ (g : Net) (L : List ℕ) (n : ℕ) (w : Within g L n) (s : List ℕ) (long : n ≤ length s) where
  in_row : (i : ℕ) → i < length L → head g (at L i) < length (upto g L s i)
  in_row i h = omega (arith, (w.known.each i h).in_head, upto-length g L s i)

  -- what fact i did in the round
  cases : (i : ℕ) → i < length L → (v : ℕ) → (at (relax g s (at L i) (upto g L s i)) v ≡ at (upto g L s i) v) ⊎ Lifts g s (at L i) (upto g L s i) v
  cases i h v = relax-cases g s (at L i) (upto g L s i) (in_row i h) v

  -- what a round has done after i facts: no time falls
  pub upto-grows : (i : ℕ) → i ≤ length L → (v : ℕ) → at s v ≤ at (upto g L s i) v
  unfolding upto
  upto-grows zero h v = omega arith
  upto-grows (suc i) h v =
      omega (arith, upto-grows i (omega arith) v, relax-grows g s (at L i) (upto g L s i) (in_row i h) v)

  -- each fact used is kept between the earlier times and the later
  upto-covers : (i : ℕ) → i ≤ length L → (k : ℕ) → k < i → at s (tail g (at L k)) + bias ≤ at (upto g L s i) (head g (at L k)) + bound g (at L k)
  unfolding upto
  upto-covers zero h k l = omega arith
  upto-covers (suc i) h k l = go (upto-covers i (omega arith) k) (dec_lt k i)
    where
      here : at s (tail g (at L i)) + bias ≤ at (relax g s (at L i) (upto g L s i)) (head g (at L i)) + bound g (at L i)
      here = omega (arith, relax-head g s (at L i) (upto g L s i) (in_row i h))

      go : (k < i → at s (tail g (at L k)) + bias ≤ at (upto g L s i) (head g (at L k)) + bound g (at L k)) → Dec (k < i) → at s (tail g (at L k)) + bias ≤ at (relax g s (at L i) (upto g L s i)) (head g (at L k)) + bound g (at L k)
      go ih (yes b) = omega (arith, ih b, relax-grows g s (at L i) (upto g L s i) (in_row i h) (head g (at L k)))
      go ih (no b) = let e : k ≡ i = omega arith in rw e here

  -- a time that has risen was raised by one of the facts, exactly
  upto-raised : (i : ℕ) → i ≤ length L → (v : ℕ) → at s v < at (upto g L s i) v → Raised g L s (upto g L s i) v
  unfolding upto Lifts
  upto-raised zero h v l = absurd (omega arith)
  upto-raised (suc i) h v l = go (upto-raised i (omega arith) v) (cases i h v)
    where
      nxt : List ℕ
      nxt = relax g s (at L i) (upto g L s i)

      go : (at s v < at (upto g L s i) v → Raised g L s (upto g L s i) v) → (at nxt v ≡ at (upto g L s i) v) ⊎ Lifts g s (at L i) (upto g L s i) v → Raised g L s nxt v
      go ih (inl e) =
          let t : Raised g L s (upto g L s i) v = ih (omega arith) in
          (t.0, record { below = t.1.below; raises = record { heads = t.1.raises.heads; exact = omega (arith, t.1.raises.exact) } })
      go ih (inr e) = (i, record { below = h; raises = record { heads = sym e.0; exact = e.1 } })

  -- the times below any that keep the facts stay below
  upto-under : (t : ℕ → ℕ) → Holds g L t → ((v : ℕ) → at s v ≤ t v) → (i : ℕ) → i ≤ length L → (v : ℕ) → at (upto g L s i) v ≤ t v
  unfolding upto Lifts
  upto-under t k u zero h v = u v
  upto-under t k u (suc i) h v = go (upto-under t k u i (omega arith) v) (cases i h v)
    where
      nxt : List ℕ
      nxt = relax g s (at L i) (upto g L s i)

      go : at (upto g L s i) v ≤ t v → (at nxt v ≡ at (upto g L s i) v) ⊎ Lifts g s (at L i) (upto g L s i) v → at nxt v ≤ t v
      go ih (inl e) = omega arith
      go ih (inr e) = omega (arith, u (tail g (at L i)), k.each i h, ap t e.0)

  -- times that a round leaves as they are keep the facts
  fixed-holds : round g L s ≡ s → Holds g L (λ v. at s v)
  fixed-holds e = record { each = λ i h. subst (λ (r : List ℕ). at s (tail g (at L i)) + bias ≤ at r (head g (at L i)) + bound g (at L i)) e (upto-covers (length L) (omega arith) i h) }

  -- a round raises no time by more than the bias
  upto-bounded : (m : ℕ) → ((v : ℕ) → at s v ≤ m) → (i : ℕ) → i ≤ length L → (v : ℕ) → at (upto g L s i) v ≤ m + bias
  unfolding upto Lifts
  upto-bounded m u zero h v = omega (arith, u v)
  upto-bounded m u (suc i) h v = go (upto-bounded m u i (omega arith) v) (cases i h v)
    where
      nxt : List ℕ
      nxt = relax g s (at L i) (upto g L s i)

      go : at (upto g L s i) v ≤ m + bias → (at nxt v ≡ at (upto g L s i) v) ⊎ Lifts g s (at L i) (upto g L s i) v → at nxt v ≤ m + bias
      go ih (inl e) = omega arith
      go ih (inr e) = omega (arith, u (tail g (at L i)))

-- ---- rounds
pub rows-length : (g : Net) (L z : List ℕ) (k : ℕ) → length (rows g L z k) ≡ length z
unfolding rows
rows-length g L z zero = refl
rows-length g L z (suc k) = upto-length g L (rows g L z k) (length L) ∙ rows-length g L z k

-- a round that changes no time is followed only by the same: each begins with the times that the one before it left
module _ (g : Net) (L z : List ℕ) (k : ℕ) (e : rows g L z (suc k) ≡ rows g L z k) where
  same_more : (d : ℕ) → rows g L z (k + d) ≡ rows g L z k
  unfolding rows
  same_more zero = ap (λ (m : ℕ). rows g L z m) (add-zero k)
  same_more (suc d) = ap (λ (m : ℕ). rows g L z m) (add-suc k d) ∙ ap (λ (s : List ℕ). round g L s) (same_more d) ∙ e

  pub same_after : (m : ℕ) → k ≤ m → rows g L z m ≡ rows g L z k
  same_after m h = ap (λ (i : ℕ). rows g L z i) (omega arith) ∙ same_more (m - k)

module _ (g : Net) (L : List ℕ) (n : ℕ) (b : Within g L n) (z : List ℕ) (long : n ≤ length z) where
  fits-row : (k : ℕ) → n ≤ length (rows g L z k)
  fits-row k = omega (arith, rows-length g L z k)

  pub rows_under : Under g L z → (k : ℕ) → Under g L (rows g L z k)
  unfolding rows
  rows_under u zero = u
  rows_under u (suc k) = record { under = λ t h v. upto-under g L n b (rows g L z k) (fits-row k) t h ((rows_under u k).under t h) (length L) (omega arith) v }

  pub rows-bounded : (m : ℕ) → ((v : ℕ) → at z v ≤ m) → (k v : ℕ) → at (rows g L z k) v ≤ m + k * bias
  unfolding rows
  rows-bounded m u zero v = omega (arith, u v)
  rows-bounded m u (suc k) v = omega (arith, upto-bounded g L n b (rows g L z k) (fits-row k) (m + k * bias) (rows-bounded m u k) (length L) (omega arith) v)

  pub rows_grow : (k v : ℕ) → at (rows g L z k) v ≤ at (rows g L z (suc k)) v
  unfolding rows
  rows_grow k v = upto-grows g L n b (rows g L z k) (fits-row k) (length L) (omega arith) v

  pub rows-mono : (k d v : ℕ) → at (rows g L z k) v ≤ at (rows g L z (k + d)) v
  rows-mono k zero v = rw (add-zero k) (omega arith)
  rows-mono k (suc d) v = rw (add-suc k d) (omega (arith, rows-mono k d v, rows_grow (k + d) v))

  -- each fact is kept between the times before a round and those after it
  pub rows-cover : (k i : ℕ) → i < length L → at (rows g L z k) (tail g (at L i)) + bias ≤ at (rows g L z (suc k)) (head g (at L i)) + bound g (at L i)
  unfolding rows
  rows-cover k i h = upto-covers g L n b (rows g L z k) (fits-row k) (length L) (omega arith) i h

  -- times that a further round leaves as they are keep the facts
  pub still-holds : (k : ℕ) → rows g L z (suc k) ≡ rows g L z k → Holds g L (λ v. at (rows g L z k) v)
  unfolding rows
  still-holds k e = fixed-holds g L n b (rows g L z k) (fits-row k) e

  -- an event that rose in round k + 1 was raised by a fact
  pub rose : (k v : ℕ) → at (rows g L z k) v < at (rows g L z (suc k)) v → Raised g L (rows g L z k) (rows g L z (suc k)) v
  unfolding rows
  rose k v h = upto-raised g L n b (rows g L z k) (fits-row k) (length L) (omega arith) v h

  -- a round that raised none of the n events changed no time: no fact has a head beyond them
  pub none-rose : (k : ℕ) → ((u : ℕ) → u < n → at (rows g L z (suc k)) u ≤ at (rows g L z k) u) → rows g L z (suc k) ≡ rows g L z k
  none-rose k h = ext_get_or 0 (rows g L z (suc k)) (rows g L z k) (rows-length g L z (suc k) ∙ sym (rows-length g L z k)) (λ u _. go u (dec_lt (at (rows g L z k) u) (at (rows g L z (suc k)) u)))
    where
      go : (u : ℕ) → Dec (at (rows g L z k) u < at (rows g L z (suc k)) u) → at (rows g L z (suc k)) u ≡ at (rows g L z k) u
      go u (yes l) = let (i, r) = rose k u l in absurd (omega (arith, h u (omega (arith, (b.known.each i r.below).in_head, r.raises.heads))))
      go u (no l) = omega (arith, rows_grow k u)

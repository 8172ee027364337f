-- 16's test as the code makes it: over all numbers in their order, and then over the detours. Assumes nothing.
use mathlib.Core.Path.{◌≡◌, refl, sym, ◌∙◌, subst}
use mathlib.Core.Bool.{Bool, true, false, cond, not, ◌&&◌, ◌||◌}
use mathlib.Core.Logic.{◌⊎◌, inl, inr, ⊎_elim, by_cases}
use mathlib.Core.List.{List}
use Prim.Native.Nat.{ℕ, ◌+◌, ◌*◌, ◌/◌, ◌%◌, ◌<◌, ◌≤◌}
use native.Mathlib.Nat.{mod-lt, div-add-mod', div-lt_iff_lt-mul}
use native.Mathlib.Omega.{arith}
use native.Mathlib.Decide.{ℕ_discrete}
use lib.Arith.{digits_div, digits_mod}
use lib.Dec.{T, ltb, eqb}
use borrow.Author.Tests.{lt-ltb, le-ltb, eq-eqb, ne_eqb}
use Rattle.laws.proofs.Order.{lt-or-ge}
use Rattle.laws.proofs.Tests.{is_false, same_test}
use Rattle.meaning.specs.Limits.{most_events}
use Rattle.problem.specs.Arcs.{at}
use Rattle.distances.specs.Distances.{Distance, none, far}
use Rattle.distances.specs.Adding.{no_longer, and_then}
use Rattle.distances.specs.Numbers.{distance, table_at}
use Rattle.standing.specs.Standing.{every, in_range, is_zero, is_none, is_table}
use Rattle.standing.specs.Numbers.{placed_at}
use Rattle.standing.proofs.Every.{every-all, all-every}
use Rattle.standing.proofs.Passing.{Passes, passes, passed, pair-all, all-pair}

-- ---- places
-- place k is in row k / 24 and column k % 24
pub row_below : (k : ℕ) → k < most_events * most_events → k / most_events < most_events
row_below k l = (div-lt_iff_lt-mul {k = most_events} {x = k} {y = most_events} (omega arith)).1 l

pub column-below : (k : ℕ) → k % most_events < most_events
column-below k = mod-lt k (omega arith)

pub place_of : (k : ℕ) → 0 + (k / most_events * most_events + k % most_events) ≡ k
place_of k = let e : 0 + (k / most_events * most_events + k % most_events) ≡ k / most_events * most_events + k % most_events = omega arith in e ∙ div-add-mod' k most_events

pub place-below : (u v : ℕ) → u < most_events → v < most_events → u * most_events + v < most_events * most_events
place-below u v l m = omega arith

-- ---- distances
pub none-ranged : (d : Distance) → T (is_none d) → T (in_range d)
unfolding is_none in_range
none-ranged none h = tt
none-ranged (far z) h = absurd h

module _ (n u v : ℕ) (d : Distance) where
  placed_past : T (placed_at n u v d) → (n ≤ u) ⊎ (n ≤ v) → T (is_none d)
  unfolding placed_at
  placed_past h o = go o (lt-or-ge u n)
    where
      go : (n ≤ u) ⊎ (n ≤ v) → (u < n) ⊎ (n ≤ u) → T (is_none d)
      go (inl o) i = rw (le-ltb u n o) at h
      go (inr o) (inl i) = rw (lt-ltb u n i, le-ltb v n o) at h
      go (inr o) (inr i) = rw (le-ltb u n i) at h

  placed-zero : T (placed_at n u v d) → u < n → u ≡ v → T (is_zero d)
  unfolding placed_at
  placed-zero h l q = let m : v < n = omega arith in rw (lt-ltb u n l, lt-ltb v n m, eq-eqb u v q) at h

  is-placed : ((n ≤ u) ⊎ (n ≤ v) → T (is_none d)) → (u < n → u ≡ v → T (is_zero d)) → T (placed_at n u v d)
  unfolding placed_at
  is-placed past own = go (lt-or-ge u n) (lt-or-ge v n) (λ l. by_cases (ℕ_discrete u v) (λ q. rw (eq-eqb u v q) (own l q)) (λ q. rw (ne_eqb u v q) tt))
    where
      go : (u < n) ⊎ (n ≤ u) → (v < n) ⊎ (n ≤ v) → (u < n → T (not (eqb u v) || is_zero d)) → T (cond (ltb u n && ltb v n) (not (eqb u v) || is_zero d) (is_none d))
      go (inl l) (inl m) f = rw (lt-ltb u n l, lt-ltb v n m) (f l)
      go (inl l) (inr m) f = rw (lt-ltb u n l, le-ltb v n m) (past (inr m))
      go (inr l) m f = rw (le-ltb u n l) (past (inl l))

-- ---- the test
module _ (s : List ℕ) (n : ℕ) (few : n ≤ most_events) where
  abbrev pub AllNumbers : Bool
  AllNumbers = every (most_events * most_events) (λ (k : ℕ). in_range (distance (at s k)))

  abbrev pub AllPlaced : Bool
  AllPlaced = every most_events (λ (u : ℕ). every most_events (λ (v : ℕ). placed_at n u v (table_at s 0 most_events u v)))

  abbrev pub AllKept : Bool
  AllKept = every n (λ (u : ℕ). every n (λ (w : ℕ). every n (λ (v : ℕ). no_longer (table_at s 0 most_events u v) (and_then (table_at s 0 most_events u w) (table_at s 0 most_events w v)))))

  -- what is said of a place is said of its row and column
  pub at_pair : (P : ℕ → ℕ → Distance → Type 0) → ((k : ℕ) → k < most_events * most_events → P (k / most_events) (k % most_events) (distance (at s k))) → (u v : ℕ) → u < most_events → v < most_events → P u v (table_at s 0 most_events u v)
  at_pair P h u v l m =
      let q : 0 + (u * most_events + v) ≡ u * most_events + v = omega arith in
      rw q (rw (digits_div u {m = most_events} {r = v} m, digits_mod u {m = most_events} {r = v} m) at (h (u * most_events + v) (place-below u v l m)))

  pub at_place : (P : ℕ → ℕ → Distance → Type 0) → ((u v : ℕ) → u < most_events → v < most_events → P u v (table_at s 0 most_events u v)) → (k : ℕ) → k < most_events * most_events → P (k / most_events) (k % most_events) (distance (at s k))
  at_place P h k l = subst (λ (j : ℕ). P (k / most_events) (k % most_events) (distance (at s j))) (place_of k) (h (k / most_events) (k % most_events) (row_below k l) (column-below k))

  pub is-table : T AllNumbers → T AllPlaced → T AllKept → T (is_table n (table_at s 0 most_events))
  is-table a b c = passed n (table_at s 0 most_events)
      (record {
        ranged = λ u v l m. at_pair (λ u v d. T (in_range d)) (every-all (most_events * most_events) (λ (k : ℕ). in_range (distance (at s k))) a) u v (omega arith) (omega arith);
        own = λ u l. placed-zero n u u (table_at s 0 most_events u u) (placed u u (omega arith) (omega arith)) l refl;
        detour = λ u w v l m k. every-all n (λ (v : ℕ). no_longer (table_at s 0 most_events u v) (and_then (table_at s 0 most_events u w) (table_at s 0 most_events w v)))
            (every-all n (λ (w : ℕ). every n (λ (v : ℕ). no_longer (table_at s 0 most_events u v) (and_then (table_at s 0 most_events u w) (table_at s 0 most_events w v))))
            (every-all n (λ (u : ℕ). every n (λ (w : ℕ). every n (λ (v : ℕ). no_longer (table_at s 0 most_events u v) (and_then (table_at s 0 most_events u w) (table_at s 0 most_events w v))))) c u l) w m) v k;
        past = λ u v l m o. placed_past n u v (table_at s 0 most_events u v) (placed u v l m) o;
      })
    where
      placed : (u v : ℕ) → u < most_events → v < most_events → T (placed_at n u v (table_at s 0 most_events u v))
      placed = pair-all most_events (λ (u v : ℕ). placed_at n u v (table_at s 0 most_events u v)) b

  pub table_is : T (is_table n (table_at s 0 most_events)) → T AllNumbers × T AllPlaced × T AllKept
  table_is h = go (passes n (table_at s 0 most_events) h)
    where
      go : Passes n (table_at s 0 most_events) → T AllNumbers × T AllPlaced × T AllKept
      go p = (
        all-every (most_events * most_events) (λ (k : ℕ). in_range (distance (at s k))) (at_place (λ u v d. T (in_range d)) (λ u v l m.
            ⊎_elim (λ (i : u < n). ⊎_elim (λ (j : v < n). p.ranged u v i j) (λ (j : n ≤ v). none-ranged (table_at s 0 most_events u v) (p.past u v l m (inr j))) (lt-or-ge v n))
            (λ (i : n ≤ u). none-ranged (table_at s 0 most_events u v) (p.past u v l m (inl i))) (lt-or-ge u n))),
        all-pair most_events (λ (u v : ℕ). placed_at n u v (table_at s 0 most_events u v)) (λ u v l m.
            is-placed n u v (table_at s 0 most_events u v) (λ o. p.past u v l m o) (λ i q. subst (λ (w : ℕ). T (is_zero (table_at s 0 most_events u w))) q (p.own u i))),
        all-every n (λ (u : ℕ). every n (λ (w : ℕ). every n (λ (v : ℕ). no_longer (table_at s 0 most_events u v) (and_then (table_at s 0 most_events u w) (table_at s 0 most_events w v))))) (λ u l.
            all-every n (λ (w : ℕ). every n (λ (v : ℕ). no_longer (table_at s 0 most_events u v) (and_then (table_at s 0 most_events u w) (table_at s 0 most_events w v)))) (λ w m.
            all-every n (λ (v : ℕ). no_longer (table_at s 0 most_events u v) (and_then (table_at s 0 most_events u w) (table_at s 0 most_events w v))) (λ v k. p.detour u w v l m k))),
      )

  -- what each part decides once those before it are passed
  pub no-numbers : {r : Bool} → r ≡ AllNumbers → r ≡ false → false ≡ is_table n (table_at s 0 most_events)
  no-numbers e q = sym (is_false (is_table n (table_at s 0 most_events)) (λ h. subst T (sym e ∙ q) (table_is h).0))

  pub not-placed : {r : Bool} → r ≡ AllPlaced → r ≡ false → false ≡ is_table n (table_at s 0 most_events)
  not-placed e q = sym (is_false (is_table n (table_at s 0 most_events)) (λ h. subst T (sym e ∙ q) (table_is h).1))

  pub kept-decides : {a b : Bool} → a ≡ AllNumbers → a ≡ true → b ≡ AllPlaced → b ≡ true → AllKept ≡ is_table n (table_at s 0 most_events)
  kept-decides e p f q = same_test AllKept (is_table n (table_at s 0 most_events)) (λ k. is-table (subst T (sym p ∙ e) tt) (subst T (sym q ∙ f) tt) k) (λ h. (table_is h).2)

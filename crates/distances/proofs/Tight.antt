-- What the entries of a day say of its timetables: no timetable of the facts has v later after u than the entry, one has it just so late, and where the entry is none there is no bound.
-- Assumes nothing.
use mathlib.Core.Path.{◌≡◌, sym, subst}
use mathlib.Core.List.{List, ◌∷◌}
use Prim.Native.Nat.{ℕ, ◌<◌}
use native.Mathlib.Omega.{arith}
use lib.Dec.{T}
use lib.IntN.{ℤ, pos, neg_ℤ, ◌+ℤ◌, ◌-ℤ◌}
use lib.Signed.{◌≤ℤ◌}
use Rattle.meaning.specs.Problem.{Alternative, Timetable, Satisfies}
use Rattle.distances.specs.Distances.{Distance, none, far, Table, DayOf}
use Rattle.distances.specs.Adding.{no_longer, and_then, closes, added}
use Rattle.laws.proofs.Integers.{add-law, minus-law, neg-up, neg-down, le_of, ≤ℤ-antisym}
use Rattle.distances.proofs.Walking.{satisfied-sum, walk_kept}
use Rattle.distances.proofs.Updating.{added-day}
use Rattle.distances.proofs.Timetables.{day-sound}

module _ (n : ℕ) (fs : List Alternative) (d : Table) (day : DayOf n fs d) (u v : ℕ) (l : u < n) (m : v < n) where
  -- every timetable of the facts keeps the entry
  pub no-later : (t : Timetable) → Satisfies t fs → (z : ℤ) → d u v ≡ far z → (t v -ℤ t u) ≤ℤ z
  no-later t h z e = le_of (t v -ℤ t u) z (omega (arith, walk_kept t fs h ((day.each u v l m).walked z e), minus-law (t v) (t u)))

  -- at least k later: the fact that time of u − time of v ≤ −k
  pub at_least : ℤ → Alternative
  at_least k = record { no = 0; x = u; y = v; c = neg_ℤ k }

  later-by : (k : ℤ) → T (closes (d u v) (neg_ℤ k)) → (t : Timetable) × Satisfies t fs × (k ≤ℤ (t v -ℤ t u))
  unfolding at_least
  later-by k f =
      let (t, h) = day-sound n (at_least k ∷ fs) (added (at_least k) d) (added-day n fs d day (at_least k) (l, m) f) in
      (t, h.1, le_of k (t v -ℤ t u) (omega (arith, satisfied-sum t (at_least k) h.0, minus-law (t v) (t u), neg-up k, neg-down k)))

  -- some timetable of the facts attains it
  pub attained : (z : ℤ) → d u v ≡ far z → (t : Timetable) × Satisfies t fs × (t v -ℤ t u ≡ z)
  attained z e =
      let (t, h, k) = later-by z (subst (λ (x : Distance). T (closes x (neg_ℤ z))) (sym e) (unfold no_longer and_then in (le_of (pos 0) (z +ℤ neg_ℤ z) (omega (arith, add-law z (neg_ℤ z), neg-up z, neg-down z))).le)) in
      (t, h, ≤ℤ-antisym (no-later t h z e) k)

  -- none: the facts set no bound
  pub unbounded : d u v ≡ none → (k : ℤ) → (t : Timetable) × Satisfies t fs × (k ≤ℤ (t v -ℤ t u))
  unbounded e k = later-by k (subst (λ (x : Distance). T (closes x (neg_ℤ k))) (sym e) (unfold no_longer and_then in tt))

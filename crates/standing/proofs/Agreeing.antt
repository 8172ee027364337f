-- The numbers of a lent day and its entries: the same tests pass, and where the table passes the same distances stand. Assumes nothing.
use mathlib.Core.Path.{◌≡◌, refl, sym, ap, ap₂, ◌∙◌, subst}
use mathlib.Core.Bool.{Bool, true, false, cond}
use mathlib.Core.Logic.{⊎_elim}
use mathlib.Core.List.{List, [], ◌∷◌}
use Prim.Native.Nat.{ℕ, ◌+◌, ◌*◌, ◌<◌, ◌≤◌}
use native.Mathlib.Omega.{arith}
use lib.Dec.{T, leb, leb→le}
use lib.IntN.{pos, nat_abs, ◌+ℤ◌}
use lib.ListN.{get_or}
use borrow.Author.Tests.{leb-true}
use mir.Facts.{and_yes}
use Rattle.laws.proofs.Integers.{lifts-by, lifted-back}
use Rattle.laws.proofs.Tests.{same_test}
use Rattle.meaning.specs.Limits.{most_events}
use Rattle.meaning.specs.Problem.{Alternative}
use Rattle.meaning.specs.Screen.{is_size, first_failed}
use Rattle.problem.specs.Arcs.{at, farthest}
use Rattle.distances.specs.Distances.{Distance, none, far}
use Rattle.distances.specs.Adding.{added, shorter, over, closes}
use Rattle.distances.specs.Numbers.{middle, no_way, distance, table_at}
use Rattle.distances.proofs.Numbers.{distance-far, distance_none}
use Rattle.standing.specs.declared.Day.{Day}
use Rattle.standing.specs.Entries.{no_entry, said, table_of}
use Rattle.standing.specs.Standing.{in_range, is_table, table_tests, day_tests, new_tests}
use Rattle.standing.specs.Numbers.{number_of, Numbered, Capped}
use Rattle.standing.proofs.Every.{every-same}
use Rattle.standing.proofs.Passing.{Passes, passes, passed, same-passes}
use Rattle.standing.proofs.Singles.{far-number}
use Rattle.standing.proofs.Tabling.{none-ranged}
use Rattle.standing.proofs.Making.{inside-or}

-- ---- one distance
-- in range, its number stands for it
number-back : (d : Distance) → T (in_range d) → distance (number_of d) ≡ d
unfolding in_range
number-back none h = unfold number_of in distance_none no_way (omega arith)
number-back (far z) h =
    let l : nat_abs z ≤ farthest = leb→le (nat_abs z) farthest h in
    let k = lifts-by middle z (omega arith) in
    rw (far-number z l) (distance-far (nat_abs (z +ℤ pos middle)) (omega (arith, ap nat_abs k.is, k.small)) ∙ ap far (lifted-back middle z k))

-- the number of one out of range is out of range
number-range : (d : Distance) → T (in_range (distance (number_of d))) → T (in_range d)
unfolding in_range
number-range none h = tt
number-range (far z) h = go (leb (nat_abs z) farthest) refl h
  where
    go : (b : Bool) → leb (nat_abs z) farthest ≡ b → T (in_range (distance (number_of (far z)))) → T (leb (nat_abs z) farthest)
    go true e t = rw e tt
    go false e t = absurd (unfold number_of distance in (rw e at t))

number_small : (d : Distance) → number_of d ≤ no_way
unfolding number_of
number_small none = omega arith
number_small (far z) = go (leb (nat_abs z) farthest) refl
  where
    go : (b : Bool) → leb (nat_abs z) farthest ≡ b → cond b (nat_abs (z +ℤ pos middle)) 0 ≤ no_way
    go true e = let k = lifts-by middle z (omega (arith, leb-true (nat_abs z) farthest e)) in omega (arith, ap nat_abs k.is, k.small)
    go false e = omega arith

-- ---- the table
pub few-of : {n : ℕ} → is_size n ≡ true → n ≤ most_events
few-of {n} e = leb→le n most_events (and_yes (leb 1 n) (leb n most_events) (subst T (sym e) tt)).1

module _ (d : Day) (s : List ℕ) (num : Numbered d.entries s) where
  pub capped : Capped s
  capped = record { each = λ k l. omega (arith, num.each k l, number_small (said (get_or d.entries k no_entry))) }

  table-at : (u v : ℕ) → u < most_events → v < most_events → table_at s 0 most_events u v ≡ distance (number_of (table_of d u v))
  table-at u v l m =
      let q : 0 + (u * most_events + v) ≡ u * most_events + v = omega arith in
      ap distance (ap (at s) q ∙ num.each (u * most_events + v) (omega arith))

  module _ (n : ℕ) (few : n ≤ most_events) where
    -- all entries of a table that passes are in range
    all-ranged : (t : ℕ → ℕ → Distance) → Passes n t → (u v : ℕ) → u < most_events → v < most_events → T (in_range (t u v))
    all-ranged t p u v l m = ⊎_elim (λ (i : (u < n) × (v < n)). p.ranged u v i.0 i.1) (λ o. none-ranged (t u v) (p.past u v l m o)) (inside-or n u v)

    pub agrees : T (is_table n (table_of d)) → (u v : ℕ) → u < most_events → v < most_events → table_at s 0 most_events u v ≡ table_of d u v
    agrees h u v l m = table-at u v l m ∙ number-back (table_of d u v) (all-ranged (table_of d) (passes n (table_of d) h) u v l m)

    -- the numbers pass exactly where the entries do: of either, all must be in range to pass, and in range they are the same distances
    pub table_same : is_table n (table_at s 0 most_events) ≡ is_table n (table_of d)
    table_same =
        same_test (is_table n (table_at s 0 most_events)) (is_table n (table_of d))
        (λ h. let p = passes n (table_at s 0 most_events) h in
        passed n (table_of d) (same-passes n (table_at s 0 most_events) (table_of d) few
        (λ u v l m. table-at u v l m ∙ number-back (table_of d u v) (number-range (table_of d u v) (subst (λ (e : Distance). T (in_range e)) (table-at u v l m) (all-ranged (table_at s 0 most_events) p u v l m)))) p))
        (λ h. passed n (table_at s 0 most_events) (same-passes n (table_of d) (table_at s 0 most_events) few (λ u v l m. sym (agrees h u v l m)) (passes n (table_of d) h)))

    module _ (h : T (is_table n (table_of d))) (a : Alternative) (i : a.x < n) (j : a.y < n) where
      pub added-same : (u v : ℕ) → u < n → v < n → added a (table_at s 0 most_events) u v ≡ added a (table_of d) u v
      unfolding added
      added-same u v l m =
          ap₂ shorter (agrees h u v (omega arith) (omega arith))
          (ap₂ (λ (p q : Distance). over p a.c q) (agrees h u a.y (omega arith) (omega arith)) (agrees h a.x v (omega arith) (omega arith)))

      pub new-same : first_failed (new_tests n (table_at s 0 most_events) a) ≡ first_failed (new_tests n (table_of d) a)
      unfolding new_tests
      new-same =
          ap₂ (λ (f r : Bool). first_failed ((13, f) ∷ (16, r) ∷ []))
          (ap (λ (p : Distance). closes p a.c) (agrees h a.x a.y (omega arith) (omega arith)))
          (every-same n _ _ (λ u l. every-same n _ _ (λ v m. ap in_range (added-same u v l m))))

  -- the refusals of a lent day
  pub day-same : first_failed (table_tests d.n (table_at s 0 most_events)) ≡ first_failed (table_tests d.n (table_of d))
  unfolding table_tests first_failed
  day-same = go (is_size d.n) refl
    where
      go : (b : Bool) → is_size d.n ≡ b → first_failed (table_tests d.n (table_at s 0 most_events)) ≡ first_failed (table_tests d.n (table_of d))
      go true e = rw (table_same d.n (few-of e)) refl
      go false e = rw e refl

  -- a day passes where the refusal that its numbers give is 0
  pub day-passed : {k : ℕ} → k ≡ first_failed (table_tests d.n (table_at s 0 most_events)) → k ≡ 0 → first_failed (day_tests d) ≡ 0
  day-passed e z = sym day-same ∙ sym e ∙ z

-- The numbers of a fresh day, and of a day with one fact more, stand for the tables of the definitions. Assumes nothing.
use Rattle.std.specs.Prelude.{Ok, Err}
use Rattle.meaning.specs.declared.Refusal.TheVariants.{NoTimetable, NoDay}
use mathlib.Core.Path.{◌≡◌, refl, sym, ap, ◌∙◌, subst}
use mathlib.Core.Bool.{Bool, true, false}
use mathlib.Core.Logic.{◌⊎◌, inl, inr, ⊎_elim}
use mathlib.Core.List.{List, []}
use Prim.Native.Nat.{ℕ, ◌+◌, ◌*◌, ◌/◌, ◌%◌, ◌<◌, ◌≤◌}
use native.Mathlib.Omega.{arith}
use lib.Dec.{T, leb, leb→le, le→leb}
use lib.IntN.{nat_abs, sub_ℕ}
use borrow.Author.Tests.{lt-ltb, le-ltb}
use Rattle.laws.proofs.Order.{lt-or-ge}
use Rattle.laws.proofs.Tests.{same_test}
use Rattle.meaning.specs.Limits.{most_events}
use Rattle.meaning.specs.Problem.{Alternative}
use Rattle.meaning.specs.Screen.{first_failed}
use Rattle.problem.specs.Arcs.{at, bias, farthest}
use Rattle.distances.specs.Distances.{Distance, none, far, Table}
use Rattle.distances.specs.Adding.{added, fits, fresh, afresh}
use Rattle.distances.specs.Numbers.{no_way, middle, turn, distance, table_at, Reach, nowhere, within, InRange, Ranged, Stands, shift, lowered}
use Rattle.distances.specs.Rows.{Begun, Extended, new_number}
use Rattle.distances.proofs.Afresh.{as-afresh}
use Rattle.distances.proofs.Numbers.{distance-far, distance_none, lowered_by, lowered-not}
use Rattle.distances.proofs.Tables.{past-outside}
use Rattle.distances.proofs.Meaning.{right, fits-is}
use Rattle.standing.specs.Entries.{among}
use Rattle.standing.specs.Standing.{every, in_range, is_none, is_table, new_tests}
use Rattle.standing.specs.Numbers.{Capped, Tries}
use Rattle.standing.proofs.Every.{every-all, all-every}
use Rattle.standing.proofs.Singles.{middle-near}
use Rattle.standing.proofs.Passing.{passes, pair-all, all-pair}
use Rattle.standing.proofs.Tabling.{table_is, at_place, at_pair}

-- ---- up to the last event
pub among_in : (n : ℕ) (t : Table) (u v : ℕ) → u < n → v < n → among n t u v ≡ t u v
unfolding among
among_in n t u v l m = rw (lt-ltb u n l, lt-ltb v n m) refl

pub among-out : (n : ℕ) (t : Table) (u v : ℕ) → (n ≤ u) ⊎ (n ≤ v) → among n t u v ≡ none
unfolding among
among-out n t u v (inl o) = rw (le-ltb u n o) refl
among-out n t u v (inr o) = ⊎_elim (λ (l : u < n). rw (lt-ltb u n l, le-ltb v n o) refl) (λ (l : n ≤ u). rw (le-ltb u n l) refl) (lt-or-ge u n)

-- a pair lies among the events, or past the last
pub inside-or : (n u v : ℕ) → ((u < n) × (v < n)) ⊎ ((n ≤ u) ⊎ (n ≤ v))
inside-or n u v = ⊎_elim (λ (l : u < n). ⊎_elim (λ (m : v < n). inl (l, m)) (λ (m : n ≤ v). inr (inr m)) (lt-or-ge v n)) (λ (l : n ≤ u). inr (inl l)) (lt-or-ge u n)

-- ---- none, and in range
pub none-distance : (d : Distance) → T (is_none d) → d ≡ none
unfolding is_none
none-distance none h = refl
none-distance (far k) h = absurd h

pub reach-in : (d : Distance) → T (in_range d) → Reach d
unfolding in_range
reach-in none h = nowhere
reach-in (far z) h = within (leb→le (nat_abs z) farthest h)

pub reach-range : {d : Distance} → Reach d → T (in_range d)
unfolding in_range
reach-range nowhere = tt
reach-range (within {z = z} h) = le→leb (nat_abs z) farthest h

pub number_in : (e : ℕ) → e ≤ no_way → T (in_range (distance e)) → InRange e
unfolding in_range
number_in e h t =
    ⊎_elim (λ (l : e < no_way). inr (middle-near e (leb→le (nat_abs (sub_ℕ e middle)) farthest (rw (distance-far e l) at t)))) (λ (l : no_way ≤ e). inl (omega arith)) (lt-or-ge e no_way)

-- ---- a fresh day
module _ (r d : List ℕ) (n : ℕ) (few : n ≤ most_events) (all : (k : ℕ) → k < most_events * most_events → at r k ≡ no_way) (h : Begun r d 0 most_events n) where
  fresh_at : (u v : ℕ) → u < most_events → v < most_events → table_at d 0 most_events u v ≡ among n fresh u v
  unfolding afresh
  fresh_at u v l m = ⊎_elim (λ (i : (u < n) × (v < n)). as-afresh n [] (table_at d 0 most_events) h.holds.day u v i.0 i.1 ∙ sym (among_in n fresh u v i.0 i.1)) (λ o. distance_none _ (none-at o) ∙ sym (among-out n fresh u v o)) (inside-or n u v)
    where
      none-at : (n ≤ u) ⊎ (n ≤ v) → no_way ≤ at d (0 + (u * most_events + v))
      none-at o =
          ⊎_elim (λ (i : u < n). omega (arith, h.past (0 + (u * most_events + v)) (omega arith) (omega arith) (past-outside 0 most_events n u v few m o)))
          (λ (i : n ≤ u). omega (arith, h.rest (0 + (u * most_events + v)) (inr (omega arith)), all (0 + (u * most_events + v)) (omega arith)))
          (lt-or-ge u n)

  pub fresh-place : (k : ℕ) → k < most_events * most_events → distance (at d k) ≡ among n fresh (k / most_events) (k % most_events)
  fresh-place = at_place d n few (λ u v e. e ≡ among n fresh u v) fresh_at

-- ---- one fact more
-- lowering never raises
lowered-most : (o t e : ℕ) → lowered o t e ≤ o
lowered-most o t e = ⊎_elim (λ (l : e < no_way). omega (arith, lowered_by o t e l)) (λ (l : no_way ≤ e). omega (arith, lowered-not o t e l)) (lt-or-ge e no_way)

module _ (s z : List ℕ) (n x y b : ℕ) (a : Alternative) (few : n ≤ most_events) (l : x < n) (m : y < n) (hb : b < 2 * bias) (st : Stands x y b a) (cap : Capped s) (table : T (is_table n (table_at s 0 most_events))) (ext : Extended s z 0 0 most_events n x y b) where
  abbrev new : Table
  new = added a (table_at s 0 most_events)

  ranged : Ranged s 0 most_events n
  ranged = record { each = λ u v i j. number_in (at s (0 + (u * most_events + v))) (cap.each (0 + (u * most_events + v)) (omega arith)) ((passes n (table_at s 0 most_events) table).ranged u v i j) }

  -- what stands past the last event stays
  past-still : (u v : ℕ) → u < most_events → v < most_events → (n ≤ u) ⊎ (n ≤ v) → at z (0 + (u * most_events + v)) ≡ at s (0 + (u * most_events + v))
  past-still u v i j o = ext.rest (0 + (u * most_events + v)) (past-outside 0 most_events n u v few j o)

  -- a new number is in range exactly where its distance is, and then stands for it
  new-range : (u v : ℕ) → u < n → v < n → T (in_range (table_at z 0 most_events u v)) → T (in_range (new u v))
  new-range u v i j h =
      reach-range ((right s 0 most_events n x y b a st l m hb ranged u v i j).only
      (number_in (new_number s 0 most_events x y b u v)
      (omega (arith, lowered-most (at s (0 + (u * most_events + v))) (shift (at s (0 + (u * most_events + y))) b) (at s (0 + (x * most_events + v))), cap.each (0 + (u * most_events + v)) (omega arith)))
      (subst (λ (e : ℕ). T (in_range (distance e))) (ext.each u v i j) h)))

  new-at : (u v : ℕ) → u < n → v < n → T (in_range (new u v)) → table_at z 0 most_events u v ≡ new u v
  new-at u v i j h = ap distance (ext.each u v i j) ∙ ((right s 0 most_events n x y b a st l m hb ranged u v i j).is (reach-in (new u v) h)).0

  -- the numbers stay in range exactly where the distances do: among the events each new number is right for its distance, and past the last one nothing has changed
  pub range_same : every (most_events * most_events) (λ (k : ℕ). in_range (distance (at z k))) ≡ every n (λ (u : ℕ). every n (λ (v : ℕ). in_range (new u v)))
  range_same =
      same_test _ _
      (λ h. all-pair n (λ u v. in_range (new u v)) (λ u v i j. new-range u v i j (at_pair z n few (λ u v d. T (in_range d)) (every-all (most_events * most_events) (λ (k : ℕ). in_range (distance (at z k))) h) u v (omega arith) (omega arith))))
      (λ h. all-every (most_events * most_events) (λ (k : ℕ). in_range (distance (at z k))) (at_place z n few (λ u v d. T (in_range d)) (λ u v i j.
      ⊎_elim (λ (o : (u < n) × (v < n)). subst (λ (d : Distance). T (in_range d)) (sym (new-at u v o.0 o.1 (pair-all n (λ u v. in_range (new u v)) h u v o.0 o.1))) (pair-all n (λ u v. in_range (new u v)) h u v o.0 o.1))
      (λ o. subst (λ (e : ℕ). T (in_range (distance e))) (sym (past-still u v i j o)) (at_pair s n few (λ u v d. T (in_range d)) (every-all (most_events * most_events) (λ (k : ℕ). in_range (distance (at s k))) (table_is s n few table).0) u v i j))
      (inside-or n u v))))

  -- and where they do, the new numbers are the new table
  pub new-place : T (every n (λ (u : ℕ). every n (λ (v : ℕ). in_range (new u v)))) → (k : ℕ) → k < most_events * most_events → distance (at z k) ≡ among n new (k / most_events) (k % most_events)
  new-place h = at_place z n few (λ u v d. d ≡ among n new u v) (λ u v i j.
      ⊎_elim (λ (o : (u < n) × (v < n)). new-at u v o.0 o.1 (pair-all n (λ u v. in_range (new u v)) h u v o.0 o.1) ∙ sym (among_in n new u v o.0 o.1))
      (λ o. ap distance (past-still u v i j o) ∙ none-distance (table_at s 0 most_events u v) ((passes n (table_at s 0 most_events) table).past u v i j o) ∙ sym (among-out n new u v o))
      (inside-or n u v))

-- ---- what a fact that is tried gets
module _ (s : List ℕ) (n x y b : ℕ) (a : Alternative) (l : x < n) (m : y < n) (st : Stands x y b a) where
  fits-code : {r : Bool} → r ≡ leb turn (at s (0 + (x * most_events + y)) + b) → r ≡ fits a (table_at s 0 most_events)
  fits-code e = e ∙ fits-is s 0 most_events n x y b a st l m

  pub tries-unsound : {r : Bool} → r ≡ leb turn (at s (0 + (x * most_events + y)) + b) → r ≡ false → Tries s n a (Err NoTimetable)
  unfolding new_tests first_failed
  tries-unsound e f = record { refusal = rw (sym (fits-code e) ∙ f) refl; entries = λ z q. absurd (cc) }

  module _ {r q : Bool} (z : List ℕ) (e : r ≡ leb turn (at s (0 + (x * most_events + y)) + b)) (f : r ≡ true) (g : q ≡ every (most_events * most_events) (λ (k : ℕ). in_range (distance (at z k)))) (few : n ≤ most_events) (hb : b < 2 * bias) (cap : Capped s) (table : T (is_table n (table_at s 0 most_events))) (ext : Extended s z 0 0 most_events n x y b) where
    range-code : q ≡ every n (λ (u : ℕ). every n (λ (v : ℕ). in_range (added a (table_at s 0 most_events) u v)))
    range-code = g ∙ range_same s z n x y b a few l m hb st cap table ext

    pub tries-beyond : q ≡ false → Tries s n a (Err NoDay)
    unfolding new_tests first_failed
    tries-beyond h = record { refusal = rw (sym (fits-code e) ∙ f, sym range-code ∙ h) refl; entries = λ t i. absurd (cc) }

    pub tries-taken : q ≡ true → Tries s n a (Ok z)
    unfolding new_tests first_failed
    tries-taken h =
        record {
          refusal = rw (sym (fits-code e) ∙ f, sym range-code ∙ h) refl;
          entries = λ t i. let same : z ≡ t = cc in rw (← same) (new-place s z n x y b a few l m hb st cap table ext (subst T (sym (sym range-code ∙ h)) tt));
        }

-- What an addition and a reading answer, put together from the code's parts in the order of the tests. Assumes nothing.
use Rattle.meaning.specs.declared.Refusal.{Refusal}
use Rattle.meaning.specs.declared.Refusal.TheVariants.{Events, Clauses, Triples, Counts, Event, Bound, Allowance, Lent, Itself, NoTimetable, NoDay, Script, Room}
use Rattle.meaning.specs.Refusal.{number_of}
use mathlib.Core.Path.{◌≡◌, refl, sym, ap, ap₂, ◌∙◌, subst}
use mathlib.Core.Bool.{Bool, true}
use mathlib.Core.Logic.{⊎_elim}
use mathlib.Core.List.{List, ◌++◌, map}
use Prim.Native.Nat.{ℕ, zero, suc, ◌*◌, ◌/◌, ◌%◌, ◌<◌, ◌≤◌}
use native.Mathlib.Omega.{arith}
use lib.Dec.{T}
use lib.IntN.{ℤ, pos}
use lib.ListN.{replicate, drop, take}
use borrow.Author.Tests.{le-leb, lt-leb}
use Rattle.laws.proofs.Tests.{is_true}
use Rattle.laws.proofs.Lists.{drop-replicate}
use Rattle.meaning.specs.Limits.{most_events, no_time}
use Rattle.meaning.specs.Problem.{Alternative}
use Rattle.meaning.specs.Decision.{least, time_of, latest_of}
use Rattle.meaning.specs.Screen.{is_size, Test, first_failed}
use Rattle.meaning.proofs.Settling.{In}
use Rattle.meaning.proofs.Order.{member-each}
use Rattle.meaning.proofs.Refusals.{numbered, all-passed, front-first, passed_over}
use Rattle.problem.specs.Arcs.{at}
use Rattle.distances.specs.Distances.{Table, DayOf}
use Rattle.distances.specs.Adding.{added, latest_by}
use Rattle.distances.specs.Numbers.{distance, table_at}
use Rattle.distances.proofs.Timetables.{latest-same}
use Rattle.distances.proofs.Meaning.{same-day}
use Rattle.standing.specs.declared.Day.{Day}
use Rattle.standing.specs.Entries.{table_of, list_of, among, entry_of, day_with, own_facts}
use Rattle.standing.specs.Standing.{is_table, table_tests, day_tests, fact_tests, new_tests, asked, add_refusal, answered, adding, read_refusal, times_read}
use Rattle.standing.specs.Numbers.{Numbered}
use Rattle.standing.proofs.Listed.{length-list, at-list, list_same}
use Rattle.standing.proofs.Passing.{passes}
use Rattle.standing.proofs.Making.{among_in, among-out, inside-or}
use Rattle.standing.proofs.Owning.{own-facts}
use Rattle.standing.proofs.Agreeing.{few-of, agrees, added-same}

some : (k : ℕ) → (k ≡ 0 → ⊥) → 0 < k
some zero h = absurd (h refl)
some (suc k) h = omega arith

-- ---- the tests of a lent day, passed
module _ (d : Day) (e : first_failed (day_tests d) ≡ 0) where
  pub day-sized : is_size d.n ≡ true
  unfolding table_tests numbered
  day-sized = is_true (is_size d.n) (all-passed (day_tests d) tt e).0

  pub day-table : T (is_table d.n (table_of d))
  unfolding table_tests numbered
  day-table = (all-passed (day_tests d) tt e).1.0

  pub day-few : d.n ≤ most_events
  day-few = few-of day-sized

  -- what is asked after them decides
  pub after-day : (us : List Test) → first_failed (day_tests d ++ us) ≡ first_failed us
  unfolding table_tests numbered
  after-day us = passed_over (day_tests d) us (all-passed (day_tests d) tt e)

-- ---- an addition
module _ (d : Day) (x y c : ℤ) (o : Bool) where
  answer-refused : (k : ℕ) → (k ≡ 0 → ⊥) → answered d (asked x y c o) k ≡ record { number = k; day = d }
  unfolding answered
  answer-refused zero h = absurd (h refl)
  answer-refused (suc k) h = refl

  pub refused-with : (k : ℕ) → k ≡ add_refusal d x y c o → (k ≡ 0 → ⊥) → record { number = k; day = d } ≡ adding d x y c o
  unfolding adding
  refused-with k e h = sym (answer-refused k h) ∙ ap (answered d (asked x y c o)) e

  pub accepted-with : 0 ≡ add_refusal d x y c o → (new : Day) → new ≡ day_with d.n (added (asked x y c o) (table_of d)) → record { number = 0; day = new } ≡ adding d x y c o
  unfolding adding answered
  accepted-with e new h = rw (sym e) (ap (λ (d : Day). record { number = 0; day = d }) h)

  pub refused-day : (k : ℕ) → k ≡ first_failed (day_tests d) → (k ≡ 0 → ⊥) → k ≡ add_refusal d x y c o
  unfolding add_refusal
  refused-day k e h = e ∙ sym (front-first (day_tests d) _ (subst (λ (k : ℕ). 0 < k) e (some k h)))

  module _ (e : first_failed (day_tests d) ≡ 0) where
    pub refused-fact : (k : ℕ) → k ≡ first_failed (fact_tests d.n x y c) → (k ≡ 0 → ⊥) → k ≡ add_refusal d x y c o
    unfolding add_refusal
    refused-fact k f h = f ∙ sym (after-day d e _ ∙ front-first (fact_tests d.n x y c) _ (subst (λ (k : ℕ). 0 < k) f (some k h)))

    pub after-fact : first_failed (fact_tests d.n x y c) ≡ 0 → add_refusal d x y c o ≡ first_failed (new_tests d.n (table_of d) (asked x y c o))
    unfolding add_refusal fact_tests numbered
    after-fact f = after-day d e _ ∙ passed_over (fact_tests d.n x y c) _ (all-passed (fact_tests d.n x y c) tt f)

-- a refusal's number is none of 0
pub number-some : (r : Refusal) → number_of r ≡ 0 → ⊥
number-some Events e = omega arith
number-some Clauses e = omega arith
number-some Triples e = omega arith
number-some Counts e = omega arith
number-some Event e = omega arith
number-some Bound e = omega arith
number-some Allowance e = omega arith
number-some Lent e = omega arith
number-some Itself e = omega arith
number-some NoTimetable e = omega arith
number-some NoDay e = omega arith
number-some Script e = omega arith
number-some Room e = omega arith

-- the numbers of the new day are its entries
module _ (d : Day) (s : List ℕ) (num : Numbered d.entries s) (few : d.n ≤ most_events) (table : T (is_table d.n (table_of d))) (a : Alternative) (i : a.x < d.n) (j : a.y < d.n) where
  pub new-entries : (z : List ℕ) → ((k : ℕ) → k < most_events * most_events → distance (at z k) ≡ among d.n (added a (table_at s 0 most_events)) (k / most_events) (k % most_events)) → list_of (most_events * most_events) (λ (k : ℕ). entry_of (distance (at z k))) ≡ (day_with d.n (added a (table_of d))).entries
  unfolding day_with
  new-entries z h = list_same (most_events * most_events) _ _ (λ k l. ap entry_of (h k l ∙ same (k / most_events) (k % most_events)))
    where
      same : (u v : ℕ) → among d.n (added a (table_at s 0 most_events)) u v ≡ among d.n (added a (table_of d)) u v
      same u v =
          ⊎_elim
          (λ (k : (u < d.n) × (v < d.n)). among_in d.n (added a (table_at s 0 most_events)) u v k.0 k.1 ∙ added-same d s num d.n few table a i j u v k.0 k.1 ∙ sym (among_in d.n (added a (table_of d)) u v k.0 k.1))
          (λ k. among-out d.n (added a (table_at s 0 most_events)) u v k ∙ sym (among-out d.n (added a (table_of d)) u v k))
          (inside-or d.n u v)

-- ---- reading off
-- what is read off is the latest timetable of any facts of which the table is the day
pub read-latest : (n : ℕ) (fs : List Alternative) (t : Table) → DayOf n fs t → list_of n (latest_by n t) ≡ latest_of n fs
read-latest n fs t day =
    latest-same n fs t day (member-each (In n) fs day.within) (list_of n (latest_by n t)) (length-list n (latest_by n t)) (λ e l. at-list n (latest_by n t) (pos 0) e l)

module _ (d : Day) (k : ℕ) where
  pub read-refused : first_failed (day_tests d) ≡ 0 → k < d.n → 8 ≡ read_refusal d k
  unfolding read_refusal first_failed
  read-refused e l = sym (after-day d e _ ∙ rw (lt-leb d.n k l) refl)

  pub read_taken : first_failed (day_tests d) ≡ 0 → d.n ≤ k → 0 ≡ read_refusal d k
  unfolding read_refusal first_failed
  read_taken e l = sym (after-day d e _ ∙ rw (le-leb d.n k l) refl)

  pub read-no-day : (r : ℕ) → r ≡ first_failed (day_tests d) → (r ≡ 0 → ⊥) → r ≡ read_refusal d k
  unfolding read_refusal
  read-no-day r e h = e ∙ sym (front-first (day_tests d) _ (subst (λ (k : ℕ). 0 < k) e (some r h)))

  -- refused, all 1
  pub times-refused : (r : ℕ) → (r ≡ 0 → ⊥) → replicate k no_time ≡ times_read d k r
  unfolding times_read
  times-refused zero h = absurd (h refl)
  times-refused (suc r) h = refl

-- n times, then 1s
pub times-taken : (d : Day) (k : ℕ) (s : List ℕ) → Numbered d.entries s → (e : first_failed (day_tests d) ≡ 0) → (times : List ℕ) → ((fs : List Alternative) → DayOf d.n fs (table_at s 0 most_events) → take d.n times ≡ least d.n fs) → map time_of (take d.n times) ++ drop d.n (replicate k no_time) ≡ times_read d k 0
unfolding times_read latest_of latest_by
times-taken d k s num e times h =
    let few = day-few d e in
    let table = day-table d e in
    let own = own-facts d.n (table_of d) (passes d.n (table_of d) table) in
    ap₂ ◌++◌
    (ap (map time_of) (h (own_facts d.n (table_of d)) (same-day d.n (own_facts d.n (table_of d)) (table_of d) (table_at s 0 most_events) (λ u v l m. agrees d s num d.n few table u v (omega arith) (omega arith)) own)) ∙ sym (read-latest d.n (own_facts d.n (table_of d)) (table_of d) own))
    (drop-replicate d.n k no_time)

-- What A8 claims of a standing day: it is one for a set of facts; a table that passes is the day of its own entries; adding gives the day with the fact, and is refused with 13
-- exactly where that has no timetable; what is read off is the latest timetable; and the loop's law. Assumes nothing.
use mathlib.Core.Path.{◌≡◌, refl, sym, ap, ◌∙◌, subst}
use mathlib.Core.Bool.{Bool, true, false, cond}
use mathlib.Core.List.Memᴰ
use mathlib.Core.List.{List, [], ◌∷◌, ◌++◌, Memᴰ}
use Prim.Native.Nat.{ℕ, zero, suc, ◌-◌, ◌*◌, ◌<◌, ◌≤◌}
use native.Mathlib.Omega.{arith}
use lib.Dec.{T, leb, eqb, leb→le, ltb→lt}
use lib.IntN.{ℤ, pos, negsuc, nat_abs}
use lib.ListN.{length, replicate}
use borrow.Author.Tests.{ne_eqb}
use mir.Facts.{and_yes}
use Rattle.laws.proofs.Tests.{is_true}
use Rattle.meaning.specs.Limits.{most_events, most_bound, no_time}
use Rattle.meaning.specs.Problem.{Alternative, opposite}
use Rattle.meaning.specs.Decision.{sound, latest_of}
use Rattle.meaning.specs.Screen.{is_size, is_event, Test, first_failed}
use Rattle.meaning.proofs.Order.{Among}
use Rattle.meaning.proofs.Refusals.{numbered, all-passed, front-first, passed_over}
use Rattle.problem.specs.Arcs.{bias}
use Rattle.distances.specs.Distances.{Distance, none, far, DayOf}
use Rattle.distances.specs.Adding.{added, fits, fresh, afresh}
use Rattle.distances.proofs.Walking.{one-day}
use Rattle.distances.proofs.Updating.{added-day}
use Rattle.distances.proofs.Timetables.{fits-sound}
use Rattle.distances.proofs.Afresh.{fresh-day, as-afresh, again-fits, twice-is-once}
use Rattle.distances.proofs.Range.{in_reach}
use Rattle.distances.proofs.Meaning.{bounded-more}
use Rattle.standing.specs.declared.Day.{Day}
use Rattle.standing.specs.declared.Answered.{Answered}
use Rattle.standing.specs.Entries.{table_of, day_with, own_facts}
use Rattle.standing.specs.Standing.{every, in_range, is_table, table_tests, day_tests, begun, fresh_day, asked, fact_tests, new_tests, add_refusal, answered, adding, read_refusal, times_read}
use Rattle.standing.specs.Following.{Follows, Bounded, Addition, fact_of, followed, accepted}
use Rattle.standing.proofs.Passing.{passes, all-pair}
use Rattle.standing.proofs.Making.{reach-range}
use Rattle.standing.proofs.Owning.{own-facts}
use Rattle.standing.proofs.Agreeing.{few-of}
use Rattle.standing.proofs.Telling.{day-by, made-follows}
use Rattle.standing.proofs.Answers.{after-day, refused-with, refused-fact, read-latest, read_taken}

-- ---- one day for a set of facts
-- a standing day is what working its facts out afresh gives
pub as-worked-out : (d : Day) (fs : List Alternative) → Follows d fs → d ≡ day_with d.n (afresh fs)
as-worked-out d fs f = day-by d f.long (passes d.n (table_of d) f.table) (afresh fs) (as-afresh d.n fs (table_of d) f.day)

-- the order of the facts and their copies do not count
pub one-standing-day : (d e : Day) (fs gs : List Alternative) → d.n ≡ e.n → Among fs gs → Among gs fs → Follows d fs → Follows e gs → d ≡ e
one-standing-day d e fs gs q a b f g =
    day-by d f.long (passes d.n (table_of d) f.table) (table_of e) (λ u v l m. one-day d.n fs gs (table_of d) (table_of e) a b f.day (subst (λ (n : ℕ). DayOf n gs (table_of e)) (sym q) g.day) u v l m)
    ∙ ap (λ (n : ℕ). day_with n (table_of e)) q
    ∙ sym (day-by e g.long (passes e.n (table_of e) g.table) (table_of e) (λ u v l m. refl))

-- ---- a table that passes
pub own-day : (d : Day) → length d.entries ≡ most_events * most_events → first_failed (day_tests d) ≡ 0 → Follows d (own_facts d.n (table_of d))
unfolding table_tests numbered
own-day d long e =
    let p = all-passed (day_tests d) tt e in
    record { sized = is_true (is_size d.n) p.0; long = long; table = p.1.0; day = own-facts d.n (table_of d) (passes d.n (table_of d) p.1.0) }

-- and every standing day passes
pub follows-passes : (d : Day) (fs : List Alternative) → Follows d fs → first_failed (day_tests d) ≡ 0
unfolding table_tests first_failed
follows-passes d fs f = rw (f.sized, is_true (is_table d.n (table_of d)) f.table) refl

-- ---- one fact more
more-bounded : (a : Alternative) (fs : List Alternative) → nat_abs a.c ≤ bias → Bounded fs → Bounded (a ∷ fs)
more-bounded a fs h b = record { each = bounded-more a h fs b.each }

module _ (x y c : ℤ) (o : Bool) where
  -- an alternative that is taken names events of the day, and its bound or its opposite's is one that 01 knows
  event-below : (n : ℕ) (z : ℤ) → T (is_event n z) → nat_abs z < n
  event-below n (pos k) h = ltb→lt k n (and_yes (leb 0 k) _ h).1
  event-below n (negsuc k) h = absurd h

  pub fact-within : (n : ℕ) → first_failed (fact_tests n x y c) ≡ 0 → ((asked x y c o).x < n) × ((asked x y c o).y < n)
  unfolding fact_tests numbered opposite
  fact-within n e =
      let p = all-passed (fact_tests n x y c) tt e in
      let (i, j) = and_yes (is_event n x) (is_event n y) p.0 in
      go o (event-below n x i) (event-below n y j)
    where
      go : (o : Bool) → nat_abs x < n → nat_abs y < n → ((asked x y c o).x < n) × ((asked x y c o).y < n)
      go true i j = (j, i)
      go false i j = (i, j)

  pub fact-bounded : (n : ℕ) → first_failed (fact_tests n x y c) ≡ 0 → nat_abs (asked x y c o).c ≤ bias
  unfolding fact_tests numbered opposite
  fact-bounded n e = let p = all-passed (fact_tests n x y c) tt e in go o c (leb→le (nat_abs c) most_bound p.1.1.0)
    where
      go : (o : Bool) (c : ℤ) → nat_abs c ≤ most_bound → nat_abs (asked x y c o).c ≤ bias
      go true (pos zero) h = omega arith
      go true (pos (suc k)) h = omega arith
      go true (negsuc zero) h = omega arith
      go true (negsuc (suc k)) h = omega arith
      go false c h = omega arith

facts-passed : (n : ℕ) (x y c : ℤ) → first_failed (fact_tests n x y c) ≡ 0 → (us : List Test) → first_failed (fact_tests n x y c ++ us) ≡ first_failed us
unfolding fact_tests numbered
facts-passed n x y c e us = passed_over (fact_tests n x y c) us (all-passed (fact_tests n x y c) tt e)

number-answered : (d : Day) (a : Alternative) (k : ℕ) → (answered d a k).number ≡ k
unfolding answered
number-answered d a zero = refl
number-answered d a (suc k) = refl

last-sound : (b : Bool) → b ≡ true → first_failed ((13, b) ∷ []) ≡ 0
unfolding first_failed
last-sound b e = rw e refl

last-unsound : (b : Bool) → b ≡ false → first_failed ((13, b) ∷ []) ≡ 13
unfolding first_failed
last-unsound b e = rw e refl

module _ (d : Day) (fs : List Alternative) (f : Follows d fs) (x y c : ℤ) (o : Bool) where
  abbrev fact : Alternative
  fact = asked x y c o

  -- the refusals after the day's own
  abbrev after : List Test
  after = fact_tests d.n x y c ++ new_tests d.n (table_of d) fact

  refusal_is : add_refusal d x y c o ≡ first_failed after
  unfolding add_refusal
  refusal_is = after-day d (follows-passes d fs f) after

  -- a fact that is asked for rightly
  module _ (right : first_failed (fact_tests d.n x y c) ≡ 0) where
    inside : (fact.x < d.n) × (fact.y < d.n)
    inside = fact-within x y c o d.n right

    fits-is : fits fact (table_of d) ≡ sound (fact ∷ fs)
    fits-is = fits-sound d.n fs (table_of d) f.day fact inside

    refusal-new : add_refusal d x y c o ≡ first_failed (new_tests d.n (table_of d) fact)
    refusal-new = refusal_is ∙ facts-passed d.n x y c right (new_tests d.n (table_of d) fact)

    -- 13 exactly where the facts with it have no timetable, and the day stays as it was
    pub new-unsound : sound (fact ∷ fs) ≡ false → add_refusal d x y c o ≡ 13
    unfolding new_tests first_failed
    new-unsound e = let q : first_failed (new_tests d.n (table_of d) fact) ≡ 13 = rw (fits-is ∙ e) refl in refusal-new ∙ q

    pub refused-unsound : sound (fact ∷ fs) ≡ false → adding d x y c o ≡ record { number = 13; day = d }
    unfolding adding answered
    refused-unsound e = rw (new-unsound e) refl

    pub unsound-refused : add_refusal d x y c o ≡ 13 → sound (fact ∷ fs) ≡ false
    unfolding new_tests first_failed
    unsound-refused e = go (sound (fact ∷ fs)) refl
      where
        ranges : Bool
        ranges = every d.n (λ u. every d.n (λ v. in_range (added fact (table_of d) u v)))

        other : (r : Bool) → ◌≡◌ {A = ℕ} (cond r 0 16) 13 → ⊥
        other true q = omega arith
        other false q = omega arith

        go : (b : Bool) → sound (fact ∷ fs) ≡ b → b ≡ false
        go true q = absurd (other ranges (let r : first_failed (new_tests d.n (table_of d) fact) ≡ cond ranges 0 16 = rw (fits-is ∙ q) refl in sym (refusal-new ∙ r) ∙ e))
        go false q = refl

    -- taken, it is the day of the facts with it
    module _ (ok : sound (fact ∷ fs) ≡ true) where
      new-day : DayOf d.n (fact ∷ fs) (added fact (table_of d))
      new-day = added-day d.n fs (table_of d) f.day fact inside (subst T (sym (fits-is ∙ ok)) tt)

      module _ (ranged : (u v : ℕ) → u < d.n → v < d.n → T (in_range (added fact (table_of d) u v))) where
        pub new-taken : add_refusal d x y c o ≡ 0
        unfolding new_tests first_failed
        new-taken =
            let r = is_true (every d.n (λ u. every d.n (λ v. in_range (added fact (table_of d) u v)))) (all-pair d.n (λ u v. in_range (added fact (table_of d) u v)) ranged) in
            let q : first_failed (new_tests d.n (table_of d) fact) ≡ 0 = rw (fits-is ∙ ok, r) refl in
            refusal-new ∙ q

        pub taken : adding d x y c o ≡ record { number = 0; day = day_with d.n (added fact (table_of d)) }
        unfolding adding answered
        taken = rw new-taken refl

        pub taken-follows : Follows (day_with d.n (added fact (table_of d))) (fact ∷ fs)
        taken-follows = made-follows d.n (few-of f.sized) (added fact (table_of d)) ranged f.sized (fact ∷ fs) new-day

        -- exactly what working it out afresh gives
        pub taken-afresh : adding d x y c o ≡ record { number = 0; day = day_with d.n (afresh (fact ∷ fs)) }
        unfolding day_with
        taken-afresh = taken ∙ ap (λ (e : Day). record { number = 0; day = e }) (as-worked-out (day_with d.n (added fact (table_of d))) (fact ∷ fs) taken-follows)

      -- where some new entry would leave the range, 16, and the day stays as it was
      pub refused-beyond : every d.n (λ u. every d.n (λ v. in_range (added fact (table_of d) u v))) ≡ false → adding d x y c o ≡ record { number = 16; day = d }
      unfolding adding answered new_tests first_failed
      refused-beyond e = let q : first_failed (new_tests d.n (table_of d) fact) ≡ 16 = rw (fits-is ∙ ok, e) refl in rw (refusal-new ∙ q) refl

      -- 16 for the result never happens where the facts are alternatives and opposites
      pub stays-in-range : Bounded fs → (u v : ℕ) → u < d.n → v < d.n → T (in_range (added fact (table_of d) u v))
      stays-in-range h u v l m =
          reach-range (in_reach d.n (fact ∷ fs) (added fact (table_of d)) new-day (few-of f.sized)
          (more-bounded fact fs (fact-bounded x y c o d.n right) h).each u v l m)

    -- adding a fact twice is adding it once
    pub twice-once : Memᴰ fact fs → adding d x y c o ≡ record { number = 0; day = d }
    twice-once m =
        taken (sym fits-is ∙ is_true (fits fact (table_of d)) (again-fits d.n fs (table_of d) f.day fact m))
        (λ u v l k. subst (λ (e : Distance). T (in_range e)) (sym (same u v l k)) ((passes d.n (table_of d) f.table).ranged u v l k))
        ∙ ap (λ (e : Day). record { number = 0; day = e }) (sym (day-by d f.long (passes d.n (table_of d) f.table) (added fact (table_of d)) (λ u v l k. sym (same u v l k))))
      where
        same : (u v : ℕ) → u < d.n → v < d.n → added fact (table_of d) u v ≡ table_of d u v
        same = twice-is-once d.n fs (table_of d) f.day fact m

-- ---- reading off
-- what is read off is 01's latest timetable of the facts, as `plan` gives it for a selection
pub reads-latest : (d : Day) (fs : List Alternative) → Follows d fs → (k : ℕ) → d.n ≤ k → (read_refusal d k ≡ 0) × (times_read d k 0 ≡ latest_of d.n fs ++ replicate (k - d.n) no_time)
unfolding times_read
reads-latest d fs f k l = (sym (read_taken d k (follows-passes d fs f) l), ap (λ (t : List ℤ). t ++ replicate (k - d.n) no_time) (read-latest d.n fs (table_of d) f.day))

-- ---- the loop's law
fresh-ranged : (u v : ℕ) → T (in_range (fresh u v))
unfolding fresh in_range
fresh-ranged u v = go (eqb u v)
  where
    go : (b : Bool) → T (in_range (cond b (far (pos 0)) none))
    go true = tt
    go false = tt

-- "the day starts with no facts"
pub fresh-follows : (n : ℕ) → is_size n ≡ true → Follows (fresh_day n).day []
unfolding fresh_day begun first_failed
fresh-follows n e = rw e (made-follows n (few-of e) fresh (λ u v l m. fresh-ranged u v) e [] (fresh-day n))

-- a standing day of alternatives and opposites, as every day that comes from a fresh one is
pub record Kept (d : Day) (fs : List Alternative) : Type 0 where
  pub follows : Follows d fs
  pub bounded : Bounded fs

module _ (d : Day) (fs : List Alternative) (h : Kept d fs) (q : Addition) where
  abbrev now : Answered
  now = adding d q.x q.y q.c q.opposite

  -- the facts after an addition: with the new one where it is accepted
  abbrev then : ℕ → List Alternative
  then k = cond (eqb k 0) (fact_of q ∷ fs) fs

  still : (k : ℕ) → now ≡ record { number = suc k; day = d } → Kept now.day (then now.number)
  still k e = rw (e, ne_eqb (suc k) 0 (λ z. omega arith)) h

  sound-or : first_failed (fact_tests d.n q.x q.y q.c) ≡ 0 → (b : Bool) → sound (fact_of q ∷ fs) ≡ b → Kept now.day (then now.number)
  sound-or right true ok =
      let ranged = stays-in-range d fs h.follows q.x q.y q.c q.opposite right ok h.bounded in
      rw (taken d fs h.follows q.x q.y q.c q.opposite right ok ranged)
      (record {
        follows = taken-follows d fs h.follows q.x q.y q.c q.opposite right ok ranged;
        bounded = more-bounded (fact_of q) fs (fact-bounded q.x q.y q.c q.opposite d.n right) h.bounded;
      })
  sound-or right false no_way = still 12 (refused-unsound d fs h.follows q.x q.y q.c q.opposite right no_way)

  -- an addition keeps the day one, of the facts with the new one where it is accepted
  pub addition-kept : Kept now.day (then now.number)
  addition-kept = go (first_failed (fact_tests d.n q.x q.y q.c)) refl
    where
      go : (k : ℕ) → first_failed (fact_tests d.n q.x q.y q.c) ≡ k → Kept now.day (then now.number)
      go zero e = sound-or e (sound (fact_of q ∷ fs)) refl
      go (suc k) e = still k (sym (refused-with d q.x q.y q.c q.opposite (suc k) (refused-fact d q.x q.y q.c q.opposite (follows-passes d fs h.follows) (suc k) (sym e) (λ z. omega arith)) (λ z. omega arith)))

  -- from a fresh day nothing refuses but 5, 12, 6 and 13: neither 1 nor 16 ever happens
  pub refused-from-fresh : now.number ≡ first_failed (fact_tests d.n q.x q.y q.c ++ ((13, sound (fact_of q ∷ fs)) ∷ []))
  unfolding adding
  refused-from-fresh = number-answered d (fact_of q) (add_refusal d q.x q.y q.c q.opposite) ∙ go (first_failed facts) refl
    where
      facts : List Test
      facts = fact_tests d.n q.x q.y q.c

      last : List Test
      last = (13, sound (fact_of q ∷ fs)) ∷ []

      judged : first_failed facts ≡ 0 → (b : Bool) → sound (fact_of q ∷ fs) ≡ b → add_refusal d q.x q.y q.c q.opposite ≡ first_failed last
      judged right true ok =
          new-taken d fs h.follows q.x q.y q.c q.opposite right ok (stays-in-range d fs h.follows q.x q.y q.c q.opposite right ok h.bounded) ∙ sym (last-sound (sound (fact_of q ∷ fs)) ok)
      judged right false no_way = new-unsound d fs h.follows q.x q.y q.c q.opposite right no_way ∙ sym (last-unsound (sound (fact_of q ∷ fs)) no_way)

      go : (k : ℕ) → first_failed facts ≡ k → add_refusal d q.x q.y q.c q.opposite ≡ first_failed (facts ++ last)
      go zero e = judged e (sound (fact_of q ∷ fs)) refl ∙ sym (facts-passed d.n q.x q.y q.c e last)
      go (suc k) e =
          let l : 0 < first_failed facts = omega arith in
          refusal_is d fs h.follows q.x q.y q.c q.opposite ∙ front-first facts _ l ∙ sym (front-first facts last l)

-- Any sequence of additions, refused ones left out, is the day of those accepted: each addition keeps the day one, of the facts so far or of those with the new one.
pub loop-law : (qs : List Addition) (d : Day) (fs : List Alternative) → Kept d fs → Kept (followed d qs) (accepted d qs fs)
unfolding followed accepted
loop-law [] d fs h = h
loop-law (q ∷ qs) d fs h = loop-law qs _ _ (addition-kept d fs h q)

pub from-fresh : (n : ℕ) → is_size n ≡ true → (qs : List Addition) → Kept (followed (fresh_day n).day qs) (accepted (fresh_day n).day qs [])
from-fresh n e qs = loop-law qs (fresh_day n).day [] (record { follows = fresh-follows n e; bounded = record { each = λ a m. absurd (Memᴰ.not-nil m) } })

-- `problem::refusing::refusal` meets its contract. Assumes nothing.
use mathlib.Core.Path.{◌≡◌, refl, sym, ◌∙◌}
use mathlib.Core.Bool.{Bool, true, false}
use mathlib.Core.List.{List, [], ◌∷◌}
use Prim.Native.Nat.{ℕ, ◌≤◌, ◌*◌, ◌/◌, ◌%◌}
use native.Mathlib.Omega.{arith}
use borrow.Author.Tests.{lt-leb, le-leb, eq-eqb, ne_eqb}
use lib.IntN.{ℤ}
use lib.ListN.{length}
use Rattle.meaning.specs.Limits.{most_events, most_clauses, most_alternatives}
use Rattle.meaning.specs.Screen.{stepped, events, bounds, are_events, are_apart, is_bound, Test, problem_tests, first_failed, problem_refusal}
use Rattle.problem.specs.Reads.{given}
use Rattle.problem.proofs.refusing.refusal.Goals as goal
use Rattle.problem.proofs.refusing.refusal.Goals.{then-n-lt1-via-then-n-lt1, then-n-lt1-via-else-n-lt1+then-n-gt-EVENTS, then-triples-ne0-via-then-triples-ne0, then-triples-ne0-via-else-triples-ne0+then-triples}

-- ---- what is left of the tests, once those before are passed
abbrev of_bounds : List ℤ → List Test
of_bounds ts = (6, bounds is_bound ts) ∷ []

abbrev of_pairs : List ℤ → List Test
of_pairs ts = (12, events are_apart ts) ∷ of_bounds ts

abbrev of_events : ℕ → List ℤ → List Test
of_events n ts = (5, events (are_events n) ts) ∷ of_pairs ts

abbrev of_counts : ℕ → List ℤ → List ℕ → List Test
of_counts n ts cs = (4, stepped (length ts / 3) 0 cs) ∷ of_events n ts

-- n, the clauses and the triples are in their limits
sized : (n : ℕ) (ts : List ℤ) (cs : List ℕ) → 1 ≤ n → n ≤ most_events → length cs ≤ most_clauses → length ts % 3 ≡ 0 → length ts ≤ 3 * most_alternatives → problem_refusal (given n ts cs) ≡ first_failed (of_counts n ts cs)
unfolding problem_refusal problem_tests first_failed
sized n ts cs some most clauses whole few =
    rw (le-leb 1 n some, le-leb n most_events most, le-leb _ most_clauses clauses, eq-eqb _ 0 whole, le-leb _ (3 * most_alternatives) few) refl

-- and the counts are in order
counted : (n : ℕ) (ts : List ℤ) (cs : List ℕ) → problem_refusal (given n ts cs) ≡ first_failed (of_counts n ts cs) → stepped (length ts / 3) 0 cs ≡ true → problem_refusal (given n ts cs) ≡ first_failed (of_events n ts)
unfolding first_failed
counted n ts cs before e = before ∙ rw e refl

-- and the event numbers lie below n
named : (n : ℕ) (ts : List ℤ) (cs : List ℕ) → problem_refusal (given n ts cs) ≡ first_failed (of_events n ts) → events (are_events n) ts ≡ true → problem_refusal (given n ts cs) ≡ first_failed (of_pairs ts)
unfolding first_failed
named n ts cs before e = before ∙ rw e refl

-- and no event is held against itself
paired : (n : ℕ) (ts : List ℤ) (cs : List ℕ) → problem_refusal (given n ts cs) ≡ first_failed (of_pairs ts) → events are_apart ts ≡ true → problem_refusal (given n ts cs) ≡ first_failed (of_bounds ts)
unfolding first_failed
paired n ts cs before e = before ∙ rw e refl

-- and the bounds are in their range
bounded : (n : ℕ) (ts : List ℤ) (cs : List ℕ) → problem_refusal (given n ts cs) ≡ first_failed (of_bounds ts) → bounds is_bound ts ≡ true → problem_refusal (given n ts cs) ≡ 0
unfolding first_failed
bounded n ts cs before e = before ∙ rw e refl

-- the first test that fails gives its number
failed : (r : ℕ) {b : Bool} (more : List Test) → b ≡ false → first_failed ((r, b) ∷ more) ≡ r
unfolding first_failed
failed r more e = rw e refl

pub returns-then-n-lt1 : goal.returns-then-n-lt1
unfolding problem_refusal problem_tests first_failed
returns-then-n-lt1 c =
    elim c.then-n-lt1.branch [
      | then-n-lt1-via-then-n-lt1 w ↦ rw (lt-leb 1 _ w.if-n-lt1.true) refl
      | then-n-lt1-via-else-n-lt1+then-n-gt-EVENTS w ↦ rw (le-leb 1 _ w.if-n-lt1.false, lt-leb _ most_events w.if-n-gt-EVENTS.true) refl
    ]

pub returns-then-counts-gt-CLAUSES : goal.returns-then-counts-gt-CLAUSES
unfolding problem_refusal problem_tests first_failed
returns-then-counts-gt-CLAUSES c =
    rw (le-leb 1 _ c.if-n-lt1.false, le-leb c.args.n most_events (omega arith), lt-leb _ most_clauses c.if-counts-gt-CLAUSES.true) refl

pub returns-then-triples-ne0 : goal.returns-then-triples-ne0
unfolding problem_refusal problem_tests first_failed
returns-then-triples-ne0 c =
    rw (le-leb 1 _ c.if-n-lt1.false, le-leb c.args.n most_events (omega arith), le-leb _ most_clauses c.if-counts-gt-CLAUSES.false)
    (elim c.then-triples-ne0.branch [
      | then-triples-ne0-via-then-triples-ne0 w ↦ rw (ne_eqb _ 0 w.if-triples-ne0.true) refl
      | then-triples-ne0-via-else-triples-ne0+then-triples w ↦ rw (eq-eqb _ 0 w.if-triples-ne0.false, lt-leb _ (3 * most_alternatives) w.if-triples.true) refl
    ])

pub returns-then-not-steps : goal.returns-then-not-steps
returns-then-not-steps c =
    let s = sized c.args.n c.args.triples.now c.args.counts.now (omega arith) (omega arith) (omega arith) (omega arith) (omega arith) in
    sym (s ∙ failed 4 _ (sym c.steps.ensures ∙ c.if-not-steps.true))

pub returns-then-not-all_events : goal.returns-then-not-all_events
returns-then-not-all_events c =
    sym (counted _ _ _ (grind (arith, sized)) (sym c.steps.ensures ∙ c.if-not-steps.false) ∙ failed 5 _ (sym c.all_events.ensures ∙ c.if-not-all_events.true))

pub returns-then-not-all_apart : goal.returns-then-not-all_apart
returns-then-not-all_apart c =
    sym (named _ _ _ (grind (arith, sized, counted)) (sym c.all_events.ensures ∙ c.if-not-all_events.false) ∙ failed 12 _ (sym c.all_apart.ensures ∙ c.if-not-all_apart.true))

pub returns-then-not-all_bounds : goal.returns-then-not-all_bounds
returns-then-not-all_bounds c =
    sym (paired _ _ _ (grind (arith, sized, counted, named)) (sym c.all_apart.ensures ∙ c.if-not-all_apart.false) ∙ failed 6 _ (sym c.all_bounds.ensures ∙ c.if-not-all_bounds.true))

pub returns : goal.returns
returns c =
    sym (bounded _ _ _ (grind (arith, sized, counted, named, paired)) (sym c.all_bounds.ensures ∙ c.if-not-all_bounds.false))

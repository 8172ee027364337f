-- The refusals of a call: its problem's, then 7 and 8. Assumes nothing.
use mathlib.Core.Path.{◌≡◌, refl, sym, ap₂, ◌∙◌}
use mathlib.Core.List.{List}
use Prim.Native.Nat.{ℕ, ◌<◌, ◌≤◌}
use borrow.Author.Tests.{lt-leb, le-leb}
use lib.Dec.{leb, leb→le}
use lib.IntN.{ℤ}
use lib.ListN.{length}
use mir.Facts.{and_yes}
use Rattle.meaning.specs.Limits.{most_allowance}
use Rattle.meaning.specs.Screen.{Input, plan_tests, first_failed, problem_refusal, refusal}
use Rattle.meaning.proofs.Refusals.{numbered, all-passed, problem-first, problem-passed, plan-problem}
use Rattle.planner.specs.Call.{call}

module _ (i : Input) where
  pub refused-problem : 0 < problem_refusal i.lent → problem_refusal i.lent ≡ refusal i
  unfolding refusal
  refused-problem h = sym (problem-first i.lent (plan_tests i) h)

  module _ (z : problem_refusal i.lent ≡ 0) where
    -- where the problem is accepted, 7 and 8 are left
    left : refusal i ≡ first_failed (plan_tests i)
    unfolding refusal
    left = problem-passed i.lent (plan_tests i) z

    pub refused-allowance : most_allowance < i.allowance → 7 ≡ refusal i
    unfolding plan_tests first_failed
    refused-allowance h = sym (rw (left, lt-leb _ most_allowance h) refl)

    module _ (a : i.allowance ≤ most_allowance) where
      pub refused-times : i.times < i.lent.n → 8 ≡ refusal i
      unfolding plan_tests first_failed
      refused-times h = sym (rw (left, le-leb _ most_allowance a, lt-leb _ _ h) refl)

      module _ (t : i.lent.n ≤ i.times) where
        pub refused-picks : i.picks < length i.lent.counts → 8 ≡ refusal i
        unfolding plan_tests first_failed
        refused-picks h = sym (rw (left, le-leb _ most_allowance a, le-leb _ _ t, lt-leb _ _ h) refl)

        pub taken : length i.lent.counts ≤ i.picks → 0 ≡ refusal i
        unfolding plan_tests first_failed
        taken h = sym (rw (left, le-leb _ most_allowance a, le-leb _ _ t, le-leb _ _ h) refl)

-- what an accepted call asks besides its problem
pub record Room (i : Input) : Type 0 where
  pub allowed : i.allowance ≤ most_allowance
  pub times : i.lent.n ≤ i.times
  pub picks : length i.lent.counts ≤ i.picks

pub room_of : (i : Input) → refusal i ≡ 0 → Room i
unfolding plan_tests numbered
room_of i e =
    let p = all-passed (plan_tests i) tt (sym (left i (plan-problem i e)) ∙ e) in
    record {
      allowed = leb→le i.allowance most_allowance p.0;
      times = leb→le i.lent.n i.times (and_yes (leb i.lent.n i.times) (leb (length i.lent.counts) i.picks) p.1.0).0;
      picks = leb→le (length i.lent.counts) i.picks (and_yes (leb i.lent.n i.times) (leb (length i.lent.counts) i.picks) p.1.0).1;
    }

-- the slices as they were lent, and as they are once filled, are as long
pub same-call : (n : ℕ) (triples : List ℤ) (counts : List ℕ) (allowance r s t u room : ℕ) → r ≡ s → t ≡ u → refusal (call n triples counts allowance r t room) ≡ refusal (call n triples counts allowance s u room)
same-call n triples counts allowance r s t u room e f = ap₂ (λ (x y : ℕ). refusal (call n triples counts allowance x y room)) e f

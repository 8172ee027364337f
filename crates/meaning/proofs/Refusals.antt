-- The refusals in their order: where one is given, its number is the one beside the first test that fails. Assumes nothing.
use mathlib.Core.Path.{◌≡◌, refl, sym, ◌∙◌}
use mathlib.Core.Bool.{Bool, true, false, ◌&&◌}
use mathlib.Core.List.{List, [], ◌∷◌, ◌++◌, map}
use Prim.Native.Nat.{ℕ, zero, suc, ◌<◌}
use native.Mathlib.Nat.{not-suc-le-zero}
use native.Mathlib.Omega.{arith}
use lib.Dec.{T, ltb, ltb→lt}
use mir.Facts.{and_yes}
use Rattle.laws.proofs.Tests.{Passed, is_true}
use Rattle.meaning.specs.declared.Refusal.{Refusal}
use Rattle.meaning.specs.Refusal.{number_of}
use Rattle.meaning.specs.Screen.{Lent, Input, Test, problem_tests, plan_tests, first_failed, problem_refusal, refusal}

-- A6's order, "after 5 and before 6"
pub as-A6-has-it : (i : Input) → map (λ (t : Test). t.0) (problem_tests i.lent ++ plan_tests i) ≡ 1 ∷ 2 ∷ 3 ∷ 4 ∷ 5 ∷ 12 ∷ 6 ∷ 7 ∷ 8 ∷ []
unfolding problem_tests plan_tests
as-A6-has-it i = refl

-- ---- tests and their numbers
-- what the tests say
abbrev pub results : List Test → List Bool
results [] = []
results (t ∷ more) = t.1 ∷ results more

-- no number beside a test is 0, which says that none failed
unfoldable pub numbered : List Test → Bool
numbered [] = true
numbered (t ∷ more) = ltb 0 t.0 && numbered more

pub none-failed : (ts : List Test) → Passed (results ts) → first_failed ts ≡ 0
unfolding first_failed
none-failed [] p = refl
none-failed (t ∷ more) p = rw (is_true t.1 p.0) (none-failed more p.1)

pub all-passed : (ts : List Test) → T (numbered ts) → first_failed ts ≡ 0 → Passed (results ts)
unfolding first_failed numbered
all-passed [] n e = tt
all-passed ((number, true) ∷ more) n e = (tt, all-passed more (and_yes (ltb 0 number) (numbered more) n).1 e)
all-passed ((number, false) ∷ more) n e = absurd (let l : 0 < number = ltb→lt 0 number (and_yes (ltb 0 number) (numbered more) n).0 in omega arith)

-- tests put after others change nothing where one of the first ones fails
pub front-first : (ts us : List Test) → 0 < first_failed ts → first_failed (ts ++ us) ≡ first_failed ts
unfolding first_failed
front-first [] us l = absurd (not-suc-le-zero l)
front-first ((number, true) ∷ ts) us l = front-first ts us l
front-first ((number, false) ∷ ts) us l = refl

-- and say all where none does
pub passed_over : (ts us : List Test) → Passed (results ts) → first_failed (ts ++ us) ≡ first_failed us
unfolding first_failed
passed_over [] us p = refl
passed_over (t ∷ ts) us p = rw (is_true t.1 p.0) (passed_over ts us p.1)

-- ---- a problem's tests, and those that an operation puts after them
module _ (l : Lent) where
  pub tests-passed : problem_refusal l ≡ 0 → Passed (results (problem_tests l))
  unfolding problem_refusal problem_tests numbered
  tests-passed e = all-passed (problem_tests l) tt e

  module _ (us : List Test) where
    -- a problem that is refused is refused with its own number
    pub problem-first : 0 < problem_refusal l → first_failed (problem_tests l ++ us) ≡ problem_refusal l
    unfolding problem_refusal
    problem-first h = front-first (problem_tests l) us h

    -- of one that is accepted, what comes after it decides
    pub problem-passed : problem_refusal l ≡ 0 → first_failed (problem_tests l ++ us) ≡ first_failed us
    problem-passed e = passed_over (problem_tests l) us (tests-passed e)

-- a call that `plan` takes has an accepted problem
pub plan-problem : (i : Input) → refusal i ≡ 0 → problem_refusal i.lent ≡ 0
unfolding refusal
plan-problem i e = go (problem_refusal i.lent) (λ h. sym (problem-first i.lent (plan_tests i) h) ∙ e)
  where
    go : (r : ℕ) → (0 < r → r ≡ 0) → r ≡ 0
    go zero f = refl
    go (suc r) f = f (omega arith)

-- no refusal has the number 0, which says that nothing is refused
pub refused-some : (e : Refusal) → number_of e ≡ 0 → ⊥
refused-some e z = grind arith

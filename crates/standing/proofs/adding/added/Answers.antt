-- `added` meets its contract: the refusals in their order, or the new day. Assumes nothing.
use mathlib.Core.Path.{◌≡◌, refl, sym, ap, ◌∙◌, subst}
use mathlib.Core.Bool.{Bool}
use mathlib.Core.List.{List, [], ◌∷◌}
use Prim.Native.Nat.{ℕ, ◌*◌, ◌<◌, ◌≤◌}
use lib.Dec.{T}
use lib.IntN.{ℤ}
use mir.Syntax.{w32}
use mir.Val.{SFits, to_z, of_z}
use mir.Facts.{to_z-of_z}
use Rattle.std.specs.Prelude.{Result, Ok}
use Rattle.std.proofs.lemmas.Result.{err_from_is_err_and}
use Rattle.meaning.specs.declared.Refusal.{Refusal}
use Rattle.meaning.specs.Limits.{most_events}
use Rattle.meaning.specs.Refusal.{told_as}
use Rattle.meaning.specs.Screen.{first_failed, problem_refusal}
use Rattle.problem.specs.declared.Problem.{Problem}
use Rattle.problem.specs.Arcs.{Arc, arc, at}
use Rattle.problem.specs.Laid.{arcs}
use Rattle.problem.specs.Loaded.{IsLoaded}
use Rattle.meaning.specs.Screen.{Lent}
use Rattle.problem.specs.Reads.{given, Reads}
use Rattle.distances.specs.Adding.{added}
use Rattle.distances.specs.Numbers.{distance, table_at}
use Rattle.standing.specs.declared.Day.{Day}
use Rattle.standing.specs.Standing.{is_table, table_tests, day_tests, fact_tests, asked, add_refusal}
use Rattle.standing.specs.Entries.{table_of, list_of, entry_of, day_with}
use Rattle.standing.specs.Numbers.{Numbered, Capped, arc_number, Tries}
use Rattle.standing.proofs.Agreeing.{capped, day-same, day-passed, table_same, new-same}
use Rattle.standing.proofs.Asking.{fact-refusal, arc-asked, arc-there, tries-as, inside-as}
use Rattle.standing.proofs.Answers.{day-sized, day-table, day-few, refused-day, refused-fact, after-fact, new-entries, number-some}
use Rattle.standing.proofs.adding.added.Goals as goal

pub returns-in_err-day_refusal-clause-number : goal.returns-in_err-day_refusal-clause-number
returns-in_err-day_refusal-clause-number c =
    let a = c.args in
    let e = err_from_is_err_and c.from_residual.result c.from_residual.ensures.1 in
    rw (e.1, e.2) (refused-day a.day.now a.x a.y a.c a.opposite _ (c.in_err-day_refusal.ensures ∙ day-same a.day.now _ c.numbers_of-s.ensures) (number-some c.in_err-day_refusal.field-0.0))

-- ---- a day that passes: the alternative's refusal is A8's
fact-is : (d : Day) (x y c : ℤ) {k : ℕ} → first_failed (day_tests d) ≡ 0 → k ≡ problem_refusal (given d.n (x ∷ y ∷ c ∷ []) (1 ∷ [])) → k ≡ first_failed (fact_tests d.n x y c)
fact-is d x y c e r = r ∙ fact-refusal d.n x y c (day-sized d e)

pub returns-in_err-p-clause-number : goal.returns-in_err-p-clause-number
returns-in_err-p-clause-number c =
    let a = c.args in
    let passed = day-passed a.day.now _ c.numbers_of-s.ensures c.in_ok-day_refusal.ensures refl in
    let e = err_from_is_err_and c.from_residual-in_err-p.result c.from_residual-in_err-p.ensures.1 in
    let number = rw (to_z-of_z c.ranges.x, to_z-of_z c.ranges.y, to_z-of_z c.ranges.c) at c.in_err-p.ensures.number in
    rw (e.1, e.2) (refused-fact a.day.now a.x a.y a.c a.opposite passed _ (fact-is a.day.now a.x a.y a.c passed number) (number-some c.in_err-p.field-0.0))

-- ---- a fact that is to be tried
-- the alternative as the bits of its three words give it
abbrev words : ℕ → ℤ → ℤ → ℤ → Lent
words n x y c = given n (to_z w32 (of_z w32 x) ∷ to_z w32 (of_z w32 y) ∷ to_z w32 (of_z w32 c) ∷ []) (1 ∷ [])

module _ (d : Day) (s : List ℕ) (x y c : ℤ) (o : Bool) (p : Problem) (xs : SFits w32 x) (ys : SFits w32 y) (cs : SFits w32 c) (num : Numbered d.entries s) (day-taken : 0 ≡ first_failed (table_tests d.n (table_at s 0 most_events)))
    (alternative : (0 ≡ problem_refusal (words d.n x y c)) × Reads (words d.n x y c) p × IsLoaded (words d.n x y c) p) where
  as-asked : words d.n x y c ≡ given d.n (x ∷ y ∷ c ∷ []) (1 ∷ [])
  as-asked = rw (to_z-of_z xs, to_z-of_z ys, to_z-of_z cs) refl

  number : 0 ≡ problem_refusal (given d.n (x ∷ y ∷ c ∷ []) (1 ∷ []))
  number = rw as-asked at alternative.0

  reads : Reads (given d.n (x ∷ y ∷ c ∷ []) (1 ∷ [])) p
  reads = rw as-asked at alternative.1

  is : IsLoaded (given d.n (x ∷ y ∷ c ∷ []) (1 ∷ [])) p
  is = rw as-asked at alternative.2

  passed : first_failed (day_tests d) ≡ 0
  passed = day-passed d s num day-taken refl

  fact-passed : first_failed (fact_tests d.n x y c) ≡ 0
  fact-passed = sym (fact-is d x y c passed number)

  few : d.n ≤ most_events
  few = day-few d passed

  table : T (is_table d.n (table_of d))
  table = day-table d passed

  module _ {j : ℕ} (e : j ≡ arc_number o) where
    fact-arc : arc (arcs p) j ≡ asked x y c o
    fact-arc = ap (arc (arcs p)) e ∙ arc-asked d.n x y c p reads is o

    arc-is : Arc (arcs p) p.n j
    arc-is = subst (Arc (arcs p) p.n) (sym e) (arc-there d.n x y c p reads is o)

    to-try : (p.n ≤ most_events) × Arc (arcs p) p.n j × Capped s × T (is_table p.n (table_at s 0 most_events))
    to-try = (p.laid.most, arc-is, capped d s num, rw reads.events (subst T (sym (table_same d s num d.n few)) table))

    fact-inside : ((asked x y c o).x < d.n) × ((asked x y c o).y < d.n)
    fact-inside = inside-as reads.events fact-arc arc-is

    -- ---- a fact that was tried
    module _ {r : Result (List ℕ) Refusal} (h : Tries s p.n (arc (arcs p) j) r) where
      tries : Tries s d.n (asked x y c o) r
      tries = tries-as reads.events fact-arc h

      number-is : told_as r ≡ add_refusal d x y c o
      number-is = tries.refusal ∙ new-same d s num d.n few table (asked x y c o) fact-inside.0 fact-inside.1 ∙ sym (after-fact d x y c o passed fact-passed)

      day-is : (z : List ℕ) → r ≡ Ok z → (l : List ℤ) → l ≡ list_of (most_events * most_events) (λ (k : ℕ). entry_of (distance (at z k))) → record { n = d.n; entries = l } ≡ day_with d.n (added (asked x y c o) (table_of d))
      unfolding day_with
      day-is z f l g = ap (λ (l : List ℤ). record { n = d.n; entries = l }) (g ∙ new-entries d s num few table (asked x y c o) fact-inside.0 fact-inside.1 z (tries.entries z f))

pub tried-requires : goal.tried-requires
tried-requires c =
    let a = c.args in
    to-try a.day.now _ a.x a.y a.c _ _ c.ranges.x c.ranges.y c.ranges.c c.numbers_of-s.ensures c.in_ok-day_refusal.ensures (c.in_ok-p.ensures.number, c.in_ok-p.ensures.reads, c.in_ok-p.ensures.value) c.arc_of.ensures

pub returns-in_err-numbers-clause-number : goal.returns-in_err-numbers-clause-number
returns-in_err-numbers-clause-number c =
    let a = c.args in
    let e = err_from_is_err_and c.from_residual-in_err-numbers.result c.from_residual-in_err-numbers.ensures.1 in
    rw (e.1, e.2) (number-is a.day.now _ a.x a.y a.c _ _ c.ranges.x c.ranges.y c.ranges.c c.numbers_of-s.ensures c.in_ok-day_refusal.ensures (c.in_ok-p.ensures.number, c.in_ok-p.ensures.reads, c.in_ok-p.ensures.value) c.arc_of.ensures c.in_err-numbers.ensures)

pub returns-clause-number : goal.returns-clause-number
returns-clause-number c =
    let a = c.args in
    number-is a.day.now _ a.x a.y a.c _ _ c.ranges.x c.ranges.y c.ranges.c c.numbers_of-s.ensures c.in_ok-day_refusal.ensures (c.in_ok-p.ensures.number, c.in_ok-p.ensures.reads, c.in_ok-p.ensures.value) c.arc_of.ensures c.in_ok-numbers.ensures

pub returns-clause-value : goal.returns-clause-value
returns-clause-value c =
    let a = c.args in
    day-is a.day.now _ a.x a.y a.c _ _ c.ranges.x c.ranges.y c.ranges.c c.numbers_of-s.ensures c.in_ok-day_refusal.ensures (c.in_ok-p.ensures.number, c.in_ok-p.ensures.reads, c.in_ok-p.ensures.value) c.arc_of.ensures c.in_ok-numbers.ensures
    c.in_ok-numbers.numbers refl c.entries_of.result c.entries_of.ensures

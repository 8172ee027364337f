-- The clauses of an accepted problem give its triples and its counts again: nothing is lost where they are written clause by clause. Assumes nothing.
use mathlib.Core.Path.{◌≡◌, refl, ap, ◌∙◌}
use mathlib.Core.List.{List, [], ◌∷◌, ◌++◌}
use Prim.Native.Nat.{ℕ, zero, suc, ◌+◌, ◌-◌, ◌/◌, ◌%◌, ◌≤◌}
use native.Mathlib.Omega.{arith}
use mir.Facts.{eqb_yes}
use lib.Dec.{T}
use lib.IntN.{ℤ, pos, nat_abs}
use lib.ListN.{length, take, drop, length-drop}
use lib.Seq.{length-take-le}
use Rattle.meaning.specs.Problem.{Clause}
use Rattle.meaning.specs.Screen.{Lent, alternatives, parted, clauses_of, stepped, events, are_events, problem_refusal}
use Rattle.meaning.proofs.Accepted.{Event, first-events, first_count, alternatives-count, passes}
use Rattle.problem.proofs.Counts.{count_under}

-- the triples of a clause, and of clauses
abbrev pub triples_of : Clause → List ℤ
triples_of [] = []
triples_of (a ∷ c) = pos a.x ∷ pos a.y ∷ a.c ∷ triples_of c

abbrev pub triples_in : List Clause → List ℤ
triples_in [] = []
triples_in (c ∷ cs) = triples_of c ++ triples_in cs

-- the counts of clauses, k alternatives standing before them
abbrev pub counts_from : ℕ → List Clause → List ℕ
counts_from k [] = []
counts_from k (c ∷ cs) = (k + length c) ∷ counts_from (k + length c) cs

-- ---- the triples
parts_again : (k : ℕ) (c : Clause) → triples_of (take k c) ++ triples_of (drop k c) ≡ triples_of c
parts_again zero c = refl
parts_again (suc k) [] = refl
parts_again (suc k) (a ∷ c) = ap (λ (l : List ℤ). pos a.x ∷ pos a.y ∷ a.c ∷ l) (parts_again k c)

alternatives-again : (n j : ℕ) (ts : List ℤ) → length ts % 3 ≡ 0 → T (events (are_events n) ts) → triples_of (alternatives j ts) ≡ ts
unfolding alternatives
alternatives-again n j [] m t = refl
alternatives-again n j (x ∷ []) m t = absurd (omega arith)
alternatives-again n j (x ∷ (y ∷ [])) m t = absurd (omega arith)
alternatives-again n j (x ∷ (y ∷ (c ∷ ts))) m t =
    let f = first-events n x y c ts t in
    rw (event-again x f.0.0, event-again y f.0.1, alternatives-again n (suc j) ts (omega arith) f.1)
  where
    event-again : (z : ℤ) → Event n z → pos (nat_abs z) ≡ z
    event-again z (k, (e, l)) = rw e

-- ---- parted by counts that step from `from` to the last, which is after all of them
module _ (last : ℕ) where
  parted-triples : (from : ℕ) (counts : List ℕ) (c : Clause) → T (stepped last from counts) → length c ≡ last - from → triples_in (parted from counts c) ≡ triples_of c
  unfolding parted stepped
  parted-triples from [] [] t e = refl
  parted-triples from [] (a ∷ c) t e = absurd (let q : from ≡ last = eqb_yes t in omega arith)
  parted-triples from (e ∷ counts) c t h =
      let f = first_count last from e counts t in
      let up : from ≤ e = f.up in
      let less : length (drop (e - from) c) ≡ last - e = length-drop (e - from) c ∙ omega arith in
      ap (λ (l : List ℤ). triples_of (take (e - from) c) ++ l) (parted-triples e counts (drop (e - from) c) f.rest less) ∙ parts_again (e - from) c

  parted-counts : (from : ℕ) (counts : List ℕ) (c : Clause) → T (stepped last from counts) → length c ≡ last - from → counts_from from (parted from counts c) ≡ counts
  unfolding parted
  parted-counts from [] c t h = refl
  parted-counts from (e ∷ counts) c t h =
      let f = first_count last from e counts t in
      let up : from ≤ e = f.up in
      let on : e ≤ last = count_under last e counts f.rest 0 (omega arith) in
      let less : length (drop (e - from) c) ≡ last - e = length-drop (e - from) c ∙ omega arith in
      let is : from + length (take (e - from) c) ≡ e = omega (arith, length-take-le (e - from) c (omega arith)) in
      rw (is, parted-counts e counts (drop (e - from) c) f.rest less)

-- ---- of an accepted problem
module _ (l : Lent) (taken : problem_refusal l ≡ 0) where
  all-parted : length (alternatives 0 l.triples) ≡ length l.triples / 3 - 0
  all-parted = alternatives-count 0 l.triples ∙ omega arith

  pub triples-again : triples_in (clauses_of l) ≡ l.triples
  unfolding clauses_of
  triples-again =
      let p = passes l taken in
      parted-triples (length l.triples / 3) 0 l.counts (alternatives 0 l.triples) p.steps all-parted
      ∙ alternatives-again l.n 0 l.triples p.whole p.events

  pub counts-again : counts_from 0 (clauses_of l) ≡ l.counts
  unfolding clauses_of
  counts-again = parted-counts (length l.triples / 3) 0 l.counts (alternatives 0 l.triples) (passes l taken).steps all-parted

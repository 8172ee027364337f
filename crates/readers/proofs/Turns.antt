-- One turn of the loop over a clause's alternatives, a reading for each. Assumes nothing.
use mathlib.Core.Path.{◌≡◌, refl, sym, ap, ◌∙◌}
use mathlib.Core.Option.{Option, some, none}
use mathlib.Core.List.{List, ◌∷◌, map}
use Prim.Native.Nat.{ℕ, suc, ◌+◌, ◌-◌, ◌<◌, ◌≤◌}
use native.Mathlib.Omega.{arith}
use Rattle.meaning.specs.Limits.{row_bytes, opposite_from}
use Rattle.meaning.specs.Problem.{Alternative}
use Rattle.meaning.specs.Reasons.{onward, kind, each_read, read}
use Rattle.problem.specs.declared.Problem.{Problem}
use Rattle.problem.specs.Arcs.{at, arc, arcs_from}
use Rattle.problem.specs.Laid.{arcs, clause_of, clauses_from}
use Rattle.readers.specs.declared.facts.Facts.{Facts}
use Rattle.readers.specs.Standing.{held, facts_from, Decided, Stands}
use Rattle.readers.proofs.Clauses.{clauses-more}
use Rattle.readers.proofs.Standings.{decided-more, decided-later}
use Rattle.readers.proofs.Readings.{Rows, read-onward, each-no, each_row, each-end}

module _ (p : Problem) (k : ℕ) where
  -- the reading of a standing with one clause more
  abbrev pub deeper : List Alternative → Rows → Option Rows
  deeper fs rows = read row_bytes (clauses_from p (k + 1) (p.m - (k + 1))) (k + 1) fs rows

  -- the alternatives of clause k from number j on, over the facts with the opposites of those before it
  abbrev pub remaining : ℕ → Facts → Rows → Option Rows
  remaining j f rows = each_read row_bytes (λ f r. deeper f r) (arcs_from (arcs p) j (at p.starts (k + 1) - j)) (facts_from p f) rows

  -- the alternatives before number j of clause k are passed over, and what remains to be read of the rest gives the same
  pub record Passing (reads : Option Rows) (j : ℕ) (f : Facts) (rest : Rows) : Type 0 where
    pub decided : Decided p j f
    pub is : reads ≡ remaining j f rest

  module _ (h : k < p.m) where
    pub pass-start : (f : Facts) (rows : Rows) (row : List ℕ) (rest : Rows) → Stands p k f → rows ≡ row ∷ rest → kind row_bytes row ≡ onward → Passing (read row_bytes (clauses_from p k (p.m - k)) k (facts_from p f) rows) (at p.starts k) f rest
    pass-start f rows row rest s first e =
        let n : p.m - k ≡ 0 → ⊥ = λ z. omega arith in
        let z : p.m - k - 1 ≡ p.m - (k + 1) = omega arith in
        record {
          decided = s.decided;
          is = let y : suc k ≡ k + 1 = omega arith in read-onward (clauses_from p k (p.m - k)) k (facts_from p f) rows row rest first e (clause_of p k) (clauses_from p (k + 1) (p.m - (k + 1))) (rw (← z) (clauses-more p k (p.m - k) n)) ∙ rw y refl;
        }

    module _ (reads : Option Rows) (j : ℕ) (f g : Facts) (rest : Rows) (t : Passing reads j f rest) (l : j < at p.starts (k + 1)) where
      -- number j is that of an alternative
      pub pass-number : j < at p.starts p.m
      pass-number = omega (arith, p.laid.ends (k + 1) (omega arith))

      module _ (e : held g ≡ j ∷ held f) (o : g.from + 1 ≡ f.from) where
        -- the alternative, in front of the facts
        pub pass-stands : Stands p (k + 1) g
        pass-stands = record { chosen = omega arith; decided = decided-later p (j + 1) (at p.starts (k + 1)) g (omega arith) (decided-more p j j f g t.decided e o (p.laid.alternative j pass-number)) }

        told : deeper (facts_from p g) rest ≡ deeper (arc (arcs p) j ∷ facts_from p f) rest
        told = ap (λ (L : List ℕ). deeper (map (arc (arcs p)) L) rest) e

        pub pass-no : deeper (facts_from p g) rest ≡ none → reads ≡ none
        pass-no q = t.is ∙ each-no (λ f r. deeper f r) (arcs p) j (at p.starts (k + 1)) (facts_from p f) rest l (sym told ∙ q)

        -- and its opposite in its place
        pub pass-row : (after : Rows) (i : Facts) → deeper (facts_from p g) rest ≡ some after → held i ≡ (opposite_from + j) ∷ held f → i.from + 1 ≡ f.from → Passing reads (j + 1) i after
        pass-row after i q e' o' =
            record {
              decided = decided-more p j (opposite_from + j) f i t.decided e' o' (p.laid.turned j pass-number);
              is = t.is ∙ each_row (λ f r. deeper f r) (arcs p) j (at p.starts (k + 1)) (facts_from p f) rest l after (opposite_from + j) (sym told ∙ q) (p.laid.opposites j pass-number) ∙ ap (λ (L : List ℕ). each_read row_bytes (λ f r. deeper f r) (arcs_from (arcs p) (j + 1) (at p.starts (k + 1) - (j + 1))) (map (arc (arcs p)) L) after) (sym e');
            }

  pub pass-end : (reads : Option Rows) (j : ℕ) (f : Facts) (rest : Rows) → Passing reads j f rest → at p.starts (k + 1) ≤ j → reads ≡ some rest
  pass-end reads j f rest t l = t.is ∙ each-end (λ f r. deeper f r) (arcs p) j (at p.starts (k + 1)) (facts_from p f) rest l

-- One step of a reading, by what the row is: rows, alternatives and clauses one at a time. Assumes nothing.
use mathlib.Core.Path.{◌≡◌, refl, ap, ◌∙◌}
use mathlib.Core.Bool.{Bool, true, false, cond}
use mathlib.Core.Option.{Option, some, none}
use mathlib.Core.List.{List, [], ◌∷◌}
use mathlib.Core.Logic.{inl, inr}
use Prim.Native.Nat.{ℕ, ◌+◌, ◌-◌, ◌<◌, ◌≤◌}
use native.Mathlib.Numerals.{add-one}
use native.Mathlib.Omega.{arith}
use denote.Ref.{Bor}
use lib.ListN.{length}
use borrow.Author.Tests.{lt-ltb, le-ltb, le-leb, lt-leb}
use Rattle.std.specs.declared.option.Option as Rust
use Rattle.std.specs.Bool.{then_some}
use Rattle.laws.proofs.Order.{lt-or-ge}
use Rattle.meaning.specs.Limits.{row_bytes}
use Rattle.meaning.specs.Problem.{Alternative, opposite, Clause}
use Rattle.meaning.specs.Reasons.{cycle_over, ring, onward, bad, dead_at, kind, cycle_rows, front, reading, and_read, each_read, read}
use Rattle.meaning.proofs.Reading.{down, read-kind}
use Rattle.problem.specs.declared.Problem.{Problem}
use Rattle.problem.specs.Arcs.{Net, arc, arcs_from}
use Rattle.problem.specs.Laid.{clause_of, clauses_from}
use Rattle.problem.proofs.Laying.{arcs-first, arcs-none, clauses-length, clause-at}
use Rattle.readers.specs.Leaves.{Answers, dead_rows}

abbrev pub Rows : Type 0
Rows = List (List ℕ)

-- a reading of a list of rows, by its first row
module _ (cs : List Clause) (k : ℕ) (fs : List Alternative) (rows : Rows) where
  abbrev reads : Option Rows
  reads = read row_bytes cs k fs rows

  pub read-none : length rows ≡ 0 → reads ≡ none
  read-none e = by cs rows e
    where
      by : (cs : List Clause) (rows : Rows) → length rows ≡ 0 → read row_bytes cs k fs rows ≡ none
      by [] [] e = unfold read reading in refl
      by (c ∷ cs) [] e = unfold read reading in refl
      by cs (row ∷ rows) e = absurd (omega arith)

  module _ (row : List ℕ) (rest : Rows) (first : rows ≡ row ∷ rest) where
    pub read-bad : kind row_bytes row ≡ bad → reads ≡ none
    unfolding front
    read-bad e = rw first (read-kind row_bytes cs k fs row rest bad e)

    pub read-ring : kind row_bytes row ≡ ring → reads ≡ cond (cycle_over fs row) (some rest) none
    unfolding front
    read-ring e = rw first (read-kind row_bytes cs k fs row rest ring e)

    pub read-dead : (d : ℕ) → kind row_bytes row ≡ dead_at d → reads ≡ dead_rows cs k d fs rest
    unfolding front dead_rows
    read-dead d e = rw first (read-kind row_bytes cs k fs row rest (dead_at d) e)

    module _ (e : kind row_bytes row ≡ onward) where
      read_down : reads ≡ down row_bytes cs k fs rest
      unfolding front
      read_down = rw first (read-kind row_bytes cs k fs row rest onward e)

      pub read-stop : cs ≡ [] → reads ≡ none
      unfolding down
      read-stop q = read_down ∙ ap (λ (cs : List Clause). down row_bytes cs k fs rest) q

      pub read-onward : (c : Clause) (more : List Clause) → cs ≡ c ∷ more → reads ≡ each_read row_bytes (λ f r. read row_bytes more (k + 1) f r) c fs rest
      unfolding down
      read-onward c more q = rw (add-one k) (read_down ∙ ap (λ (cs : List Clause). down row_bytes cs k fs rest) q)

-- the answer by a test
pub tested : (reads : Option Rows) (b : Bool) (rest : Bor Rows) (result : Rust.Option (Bor Rows)) → result ≡ then_some b rest → reads ≡ cond b (some rest.now) none → Answers reads result
tested reads true rest result e q = rw e q
tested reads false rest result e q = rw e q

-- a reading for each alternative of a clause: one of them
module _ (go : List Alternative → Rows → Option Rows) (g : Net) (j e : ℕ) (fs : List Alternative) (rows : Rows) where
  abbrev each : Option Rows
  each = each_read row_bytes go (arcs_from g j (e - j)) fs rows

  module _ (h : j < e) where
    pub each-no : go (arc g j ∷ fs) rows ≡ none → each ≡ none
    unfolding each_read and_read
    each-no q = rw (arcs-first g j e h, q) refl

    pub each_row : (rest : Rows) (b : ℕ) → go (arc g j ∷ fs) rows ≡ some rest → opposite (arc g j) ≡ arc g b → each ≡ each_read row_bytes go (arcs_from g (j + 1) (e - (j + 1))) (arc g b ∷ fs) rest
    unfolding each_read and_read
    each_row rest b w o = rw (arcs-first g j e h, w, o) refl

  pub each-end : e ≤ j → each ≡ some rows
  unfolding each_read
  each-end h = rw (arcs-none g j e h) refl

-- a cycle row for each alternative of a dead clause: one of them
module _ (g : Net) (j e : ℕ) (fs : List Alternative) where
  abbrev cycles : Rows → Option Rows
  cycles rows = cycle_rows row_bytes fs (arcs_from g j (e - j)) rows

  module _ (rows : Rows) (h : j < e) where
    pub cycles-none : length rows ≡ 0 → cycles rows ≡ none
    cycles-none z = by rows z
      where
        by : (rows : Rows) → length rows ≡ 0 → cycles rows ≡ none
        by [] z = unfold cycle_rows in rw (arcs-first g j e h) refl
        by (row ∷ rows) z = absurd (omega arith)

    module _ (row : List ℕ) (rest : Rows) (first : rows ≡ row ∷ rest) where
      pub cycles-no : cycle_over (arc g j ∷ fs) row ≡ false → cycles rows ≡ none
      unfolding cycle_rows
      cycles-no q = rw (first, arcs-first g j e h, q) refl

      pub cycles-row : cycle_over (arc g j ∷ fs) row ≡ true → cycles rows ≡ cycle_rows row_bytes fs (arcs_from g (j + 1) (e - (j + 1))) rest
      unfolding cycle_rows
      cycles-row q = rw (first, arcs-first g j e h, q) refl

  pub cycles-end : (rows : Rows) → e ≤ j → cycles rows ≡ some rows
  unfolding cycle_rows
  cycles-end rows h = rw (arcs-none g j e h) refl

-- what 200 + d calls for, by where d lies
module _ (p : Problem) (k d : ℕ) (fs : List Alternative) (rows : Rows) where
  abbrev called : Option Rows
  called = dead_rows (clauses_from p k (p.m - k)) k d fs rows

  pub dead-other : (k ≤ d → p.m ≤ d) → called ≡ none
  unfolding dead_rows
  dead-other h = elim (lt-or-ge d k) [ inl l ↦ rw (lt-leb k d l) refl | inr l ↦ past l ]
    where
      past : k ≤ d → called ≡ none
      past l =
          let o : p.m ≤ d = h l in
          let q : p.m - k ≤ d - k = omega arith in
          rw (clauses-length p k (p.m - k), le-leb k d l, le-ltb (d - k) (p.m - k) q) refl

  pub dead-later : k ≤ d → d < p.m → called ≡ cycle_rows row_bytes fs (clause_of p d) rows
  unfolding dead_rows
  dead-later l h =
      let q : d - k < p.m - k = omega arith in
      let z : k + (d - k) ≡ d = omega arith in
      rw (clauses-length p k (p.m - k), le-leb k d l, lt-ltb (d - k) (p.m - k) q, clause-at p k (p.m - k) (d - k) q, z) refl

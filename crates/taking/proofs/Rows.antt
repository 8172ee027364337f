-- A table written row by row. Assumes nothing.
use mathlib.Core.Path.{◌≡◌, refl, sym, ap, ◌∙◌, subst}
use mathlib.Core.Bool.{cond}
use mathlib.Core.Logic.{by_cases}
use mathlib.Core.List.Memᴰ
use mathlib.Core.List.{List, []}
use borrow.Author.Tests.{eq-eqb, ne_eqb}
use lib.Dec.{eqb}
use lib.IntN.{sub_ℕ}
use Prim.Native.Nat.{ℕ, ◌+◌, ◌<◌, ◌≤◌}
use native.Mathlib.Decide.{ℕ_discrete}
use native.Mathlib.Omega.{arith}
use lib.ListN.{length, get_or, set, replicate, length-set, length-replicate, get_or-replicate}
use lib.Seq.{get_or-set_same, get_or-set_other}
use Rattle.problem.specs.Arcs.{at, farthest}
use Rattle.distances.specs.Distances.{far}
use Rattle.distances.proofs.Meaning.{same-day}
use Rattle.taking.specs.Spans.{spans}
use Rattle.taking.proofs.Spans.{apart, apart-same, apart-other, spans-day}
use Rattle.taking.specs.Tables.{level, Near, IsDay, distances_in, entry, new_entry, table_at, Tall, Beside, RowLowered, WithFact}

-- row u of the table at depth k is replaced
unfoldable pub with-row : List (List (List ℕ)) → ℕ → ℕ → List ℕ → List (List (List ℕ))
with-row s k u row = set s k (set (table_at s k) u row)

-- it is still the only one that is another, and has as many rows
rewritten : (r s : List (List (List ℕ))) (k u : ℕ) (row : List ℕ) → k < length s → Beside r s k → Beside r (with-row s k u row) k
unfolding with-row
rewritten r s k u row l h =
    record {
      long = length-set s k _ ∙ h.long;
      tall = λ i. by_cases (ℕ_discrete i k) (λ e. rw e (ap length (get_or-set_same s k _ [] l) ∙ length-set (table_at s k) u row ∙ h.tall k)) (λ d. ap length (get_or-set_other s k i _ [] d) ∙ h.tall i);
      rest = λ i d. get_or-set_other s k i _ [] d ∙ h.rest i d;
    }

-- ---- no facts
-- the number from u to v where there are none
pub start : ℕ → ℕ → ℕ
start u v = cond (eqb u v) level (level + farthest)

start-own : (u v : ℕ) → u ≡ v → start u v ≡ level
unfolding start
start-own u v e = rw (eq-eqb u v e)

start-other : (u v : ℕ) → (u ≡ v → ⊥) → start u v ≡ level + farthest
unfolding start
start-other u v d = rw (ne_eqb u v d)

-- the first u rows of the table at depth 0 have them
pub record Beginning (w : ℕ) (r s : List (List (List ℕ))) (u : ℕ) : Type 0 where
  pub beside : Beside r s 0
  pub done : (i v : ℕ) → i < u → v < w → entry (table_at s 0) i v ≡ start i v

pub beginning-none : (w : ℕ) (r : List (List (List ℕ))) → Beginning w r r 0
beginning-none w r = record { beside = record { long = refl; tall = λ i. refl; rest = λ i d. refl }; done = λ i v l m. absurd (omega arith) }

pub beginning-more : (w : ℕ) (r s : List (List (List ℕ))) (u : ℕ) → Beginning w r s u → u < w → 0 < length r → Tall w r → Beginning w r (with-row s 0 u (set (replicate w (level + farthest)) u level)) (u + 1)
unfolding with-row
beginning-more w r s u h l some tall =
    record {
      beside = rewritten r s 0 u _ long h.beside;
      done = λ i v m k. ap (λ (t : List (List ℕ)). entry t i v) (get_or-set_same s 0 _ [] long)
          ∙ by_cases (ℕ_discrete i u) (λ e. rw e (ap (λ (r : List ℕ). at r v) (get_or-set_same (table_at s 0) u _ [] wide) ∙ own v k))
          (λ d. ap (λ (r : List ℕ). at r v) (get_or-set_other (table_at s 0) u i _ [] d) ∙ h.done i v (omega arith) k);
    }
  where
    long : 0 < length s
    long = omega (arith, h.beside.long)

    wide : u < length (table_at s 0)
    wide = omega (arith, h.beside.tall 0, tall.rows 0 some)

    own : (v : ℕ) → v < w → at (set (replicate w (level + farthest)) u level) v ≡ start u v
    own v k =
        by_cases (ℕ_discrete v u) (λ e. rw e (get_or-set_same (replicate w (level + farthest)) u level 0 (rw (length-replicate w (level + farthest)) l) ∙ sym (start-own u u refl)))
        (λ d. get_or-set_other (replicate w (level + farthest)) u v level 0 d ∙ get_or-replicate w v (level + farthest) 0 k ∙ sym (start-other u v (λ e. d (sym e))))

pub begun : (w : ℕ) (r s : List (List (List ℕ))) (u : ℕ) → u ≡ w → Beginning w r s u → IsDay w [] (table_at s 0)
begun w r s u e h =
    record {
      day = same-day w (spans w) (λ u v. far (apart u v)) (distances_in (table_at s 0)) (λ u v l m. ap (λ (e : ℕ). far (sub_ℕ e level)) (number u v l m) ∙ ap far (stands u v)) (spans-day w);
      near = λ u v l m. subst Near (sym (number u v l m)) (near u v);
      bounded = λ a m. absurd (Memᴰ.not-nil m);
    }
  where
    number : (u v : ℕ) → u < w → v < w → entry (table_at s 0) u v ≡ start u v
    number u v l m = h.done u v (omega arith) m

    stands : (u v : ℕ) → sub_ℕ (start u v) level ≡ apart u v
    stands u v = by_cases (ℕ_discrete u v) (λ e. rw (start-own u v e, apart-same u v e) refl) (λ d. rw (start-other u v d, apart-other u v d) refl)

    near : (u v : ℕ) → Near (start u v)
    near u v = by_cases (ℕ_discrete u v) (λ e. rw (start-own u v e) (omega arith, omega arith)) (λ d. rw (start-other u v d) (omega arith, omega arith))

-- ---- one fact more
-- the first u rows are extended; the others are still to be read as they were
pub record Extending (w : ℕ) (r s : List (List (List ℕ))) (from to x y b u : ℕ) : Type 0 where
  pub beside : Beside r s to
  pub done : (i v : ℕ) → i < u → v < w → entry (table_at s to) i v ≡ new_entry (table_at r from) x y b i v
  pub ahead : (i : ℕ) → u ≤ i → i < w → get_or (table_at s from) i [] ≡ get_or (table_at r from) i []

module _ (w : ℕ) (r : List (List (List ℕ))) (from to x y b : ℕ) where
  pub extending-none : Extending w r r from to x y b 0
  extending-none = record { beside = record { long = refl; tall = λ i. refl; rest = λ i d. refl }; done = λ i v l m. absurd (omega arith); ahead = λ i l m. refl }

  -- One row more. The rows ahead are still to be read, in place too: only row u of the table `to` is another now.
  pub extending-more : (s : List (List (List ℕ))) (u way : ℕ) (past row new : List ℕ) → Extending w r s from to x y b u → u < w → to < length r → Tall w r → past ≡ get_or (table_at r from) x [] → row ≡ get_or (table_at s from) u [] → way ≡ at row y + b → RowLowered w row way past new → Extending w r (with-row s to u new) from to x y b (u + 1)
  unfolding with-row
  extending-more s u way past row new h l some tall p q e lowered =
      record {
        beside = rewritten r s to u new long h.beside;
        done = λ i v m k. by_cases (ℕ_discrete i u) (λ j. rw j (this v k)) (λ d. ap (λ (r : List ℕ). at r v) (other i d) ∙ h.done i v (omega arith) k);
        ahead = λ i m k. by_cases (ℕ_discrete from to)
            (λ j. rw (← j) (ap (λ (t : List (List ℕ)). get_or t i []) (get_or-set_same s from _ [] (rw (← j) at long)) ∙ get_or-set_other (table_at s from) u i new [] (λ f. absurd (omega arith)) ∙ h.ahead i (omega arith) k))
            (λ d. ap (λ (t : List (List ℕ)). get_or t i []) (get_or-set_other s to from _ [] d) ∙ h.ahead i (omega arith) k);
      }
    where
      long : to < length s
      long = omega (arith, h.beside.long)

      wide : u < length (table_at s to)
      wide = omega (arith, h.beside.tall to, tall.rows to some)

      table : table_at (with-row s to u new) to ≡ set (table_at s to) u new
      table = get_or-set_same s to _ [] long

      other : (i : ℕ) → (i ≡ u → ⊥) → get_or (table_at (with-row s to u new) to) i [] ≡ get_or (table_at s to) i []
      other i d = ap (λ (t : List (List ℕ)). get_or t i []) table ∙ get_or-set_other (table_at s to) u i new [] d

      old : row ≡ get_or (table_at r from) u []
      old = q ∙ h.ahead u (omega arith) l

      this : (v : ℕ) → v < w → entry (table_at (with-row s to u new) to) u v ≡ new_entry (table_at r from) x y b u v
      this v k =
          ap (λ (t : List (List ℕ)). entry t u v) table
          ∙ ap (λ (r : List ℕ). at r v) (get_or-set_same (table_at s to) u new [] wide)
          ∙ lowered.each v k
          ∙ rw (e, p, old) refl

  pub extending-all : (s : List (List (List ℕ))) (u : ℕ) → u ≡ w → Extending w r s from to x y b u → WithFact w (table_at r from) (table_at s to) x y b
  extending-all s u e h = λ i v l m. h.done i v (omega arith) m

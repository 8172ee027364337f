-- A7's own words name the same row: to compare the cycles of the fewest arcs as each is read from its smallest number is to compare them from every start. Assumes nothing.
use mathlib.Core.Path.{◌≡◌, sym, ◌∙◌, subst}
use mathlib.Core.List.{List, [], ◌∷◌, ◌++◌}
use Prim.Native.Nat.{ℕ, zero, suc, ◌+◌, ◌≤◌, ◌<◌}
use native.Mathlib.Omega.{arith}
use native.Mathlib.Decide.{dec_lt}
use lib.Dec.{T}
use lib.ListN.{length, take, drop, length-append, take-append-drop, get_or-append}
use lib.Seq.{get_or-append-add}
use Rattle.meaning.specs.Problem.{Alternative}
use Rattle.meaning.specs.Plain.{◌≺◌}
use Rattle.meaning.specs.Decision.{at}
use Rattle.meaning.specs.Reasons.{loops}
use Rattle.meaning.specs.Shortest.{Shortest, AsWorded}
use Rattle.meaning.proofs.Dictionary.{before-trans}
use Rattle.meaning.proofs.Ways.{loops-loop, loop-some}
use Rattle.meaning.proofs.Shapes.{turn, turn-loops, turn-length, turn-head, turn-before, starts-smallest}

-- no number of the list is less than m
record AtLeast (m : ℕ) (l : List ℕ) : Type 0 where
  each : (i : ℕ) → i < length l → m ≤ at l i

at-least-both : (m : ℕ) (a b : List ℕ) → AtLeast m a → AtLeast m b → AtLeast m (a ++ b)
at-least-both m [] b p q = q
at-least-both m (x ∷ a) b p q = go (at-least-both m a b (record { each = λ i h. p.each (suc i) (omega arith) }) q)
  where
    go : AtLeast m (a ++ b) → AtLeast m ((x ∷ a) ++ b)
    go r = record { each = λ i. place i }
      where
        place : (i : ℕ) → i < length ((x ∷ a) ++ b) → m ≤ at ((x ∷ a) ++ b) i
        place zero h = p.each 0 (omega arith)
        place (suc i) h = r.each i (omega arith)

at-least-left : (m : ℕ) (a b : List ℕ) → AtLeast m (a ++ b) → AtLeast m a
at-least-left m a b p = record { each = λ i h. omega (arith, get_or-append a b 0 i h, p.each i (omega (arith, length-append a b))) }

at-least-right : (m : ℕ) (a b : List ℕ) → AtLeast m (a ++ b) → AtLeast m b
at-least-right m a b p = record { each = λ i h. omega (arith, get_or-append-add a b i 0, p.each (length a + i) (omega (arith, length-append a b))) }

-- a place of the smallest number
least-place : (l : List ℕ) → 0 < length l → (i : ℕ) × (i < length l) × AtLeast (at l i) l
least-place [] h = absurd (omega arith)
least-place (x ∷ []) h = (0, omega arith, record { each = λ i k. let e : i ≡ 0 = omega arith in rw e (omega arith) })
least-place (x ∷ (y ∷ l)) h = go (least-place (y ∷ l) (omega arith))
  where
    go : ((i : ℕ) × (i < length (y ∷ l)) × AtLeast (at (y ∷ l) i) (y ∷ l)) → (i : ℕ) × (i < length (x ∷ (y ∷ l))) × AtLeast (at (x ∷ (y ∷ l)) i) (x ∷ (y ∷ l))
    go (i, k, p) = pick (dec_lt (at (y ∷ l) i) x)
      where
        pick : Dec (at (y ∷ l) i < x) → (i : ℕ) × (i < length (x ∷ (y ∷ l))) × AtLeast (at (x ∷ (y ∷ l)) i) (x ∷ (y ∷ l))
        pick (yes q) = (suc i, omega arith, at-least-both (at (y ∷ l) i) (x ∷ []) (y ∷ l) (record { each = λ j b. let e : j ≡ 0 = omega arith in rw e (omega arith) }) p)
        pick (no q) = (0, omega arith, at-least-both x (x ∷ []) (y ∷ l) (record { each = λ j b. let e : j ≡ 0 = omega arith in rw e (omega arith) }) (record { each = λ j b. omega (arith, q, p.each j b) }))

module _ (fs : List Alternative) where
  turn-least : (m i : ℕ) (l : List ℕ) → AtLeast m l → AtLeast m (turn i l)
  unfolding turn
  turn-least m i l p =
      let q : AtLeast m (take i l ++ drop i l) = subst (AtLeast m) (sym (take-append-drop i l)) p in
      at-least-both m (drop i l) (take i l) (at-least-right m (take i l) (drop i l) q) (at-least-left m (take i l) (drop i l) q)

  pub shortest-worded : (row : List ℕ) → Shortest fs row → AsWorded fs row
  shortest-worded row s = record { closed = s.closed; fewest = s.fewest; starts = starts-smallest fs row s; first = λ l t e _. s.first l t e }

  pub worded-shortest : (row : List ℕ) → AsWorded fs row → Shortest fs row
  worded-shortest row w = record { closed = w.closed; fewest = w.fewest; first = first }
    where
      first : (l : List ℕ) → T (loops fs l) → length l ≡ length row → l ≺ row → ⊥
      first l t e b = go (least-place l (loop-some fs l (loops-loop fs l t)))
        where
          go : ((i : ℕ) × (i < length l) × AtLeast (at l i) l) → ⊥
          go (i, h, p) = pick (dec_lt (at l i) (at l 0))
            where
              pick : Dec (at l i < at l 0) → ⊥
              pick (yes k) =
                  w.first (turn i l) (turn-loops fs i l t) (turn-length fs i l ∙ e)
                  (record { smallest = λ j c. omega (arith, turn-head fs i l h, (turn-least (at l i) i l p).each j c) })
                  (before-trans (turn i l) l row (turn-before fs i l h k) b)
              pick (no k) = w.first l t e (record { smallest = λ j c. omega (arith, k, p.each j c) }) b

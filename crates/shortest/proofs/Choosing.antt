-- The best row so far and the first from one event more: what is found from it, which of the two is kept, and when the event need not be looked at. Rows from two events start with two numbers, so the first number decides. Assumes nothing.
use mathlib.Core.Path.{◌≡◌, refl, sym, ap, ◌∙◌, subst}
use mathlib.Core.List.{List, [], ◌∷◌}
use Prim.Native.Nat.{ℕ, ◌+◌, ◌≤◌, ◌<◌}
use native.Mathlib.Omega.{arith}
use native.Mathlib.Decide.{dec_lt}
use lib.ListN.{length}
use borrow.Author.Count.{below_more}
use Rattle.std.specs.Option.{IsSomeAnd}
use Rattle.std.proofs.Common.{Option, Some, None, IfSome}
use Rattle.meaning.specs.Limits.{row_bytes}
use Rattle.meaning.specs.Plain.{◌≺◌}
use Rattle.meaning.proofs.Dictionary.{head_first, head-after}
use Rattle.problem.specs.Arcs.{Net, tail, at}
use Rattle.shortest.specs.Paths.{From}
use Rattle.shortest.specs.Leading.{Lowest, RowFrom}
use Rattle.shortest.specs.Best.{Looks, GoesBefore, RowBelow, Best}
use Rattle.shortest.proofs.Bytes.{padded-first}

-- ---- the first numbers
pub from_some : (g : Net) (L : List ℕ) (t : ℕ) (l : List ℕ) → From g L t l → 0 < length l
from_some g L t [] f = absurd (omega (arith, f.negative))
from_some g L t (j ∷ l) f = omega arith

-- a closed row from t starts with an arc from t
from_tail : (g : Net) (L : List ℕ) (t : ℕ) (l : List ℕ) → From g L t l → tail g (at l 0) ≡ t
from_tail g L t [] f = absurd (omega (arith, f.negative))
from_tail g L t (j ∷ l) f = f.path.1

-- a row of bytes starts as its list does
row-first : (g : Net) (L : List ℕ) (t size : ℕ) (row : List ℕ) → size ≤ row_bytes → (r : RowFrom g L t size row) → at row 0 ≡ at r.list 0
row-first g L t size row wide r = padded-first row_bytes r.list row r.bytes (from_some g L t r.list r.first.closed) (omega (arith, r.long))

-- no closed row of its size from t starts with less than the first does
row-least : (g : Net) (L : List ℕ) (t size : ℕ) (row : List ℕ) → size ≤ row_bytes → RowFrom g L t size row → (m : List ℕ) → From g L t m → length m ≡ size → at row 0 ≤ at m 0
row-least g L t size row wide r m f e =
    omega (arith, row-first g L t size row wide r, head_first m r.list (from_some g L t m f) (from_some g L t r.list r.first.closed) (r.first.first m f (e ∙ sym r.long)))

-- ---- which of the two is kept
module _ (g : Net) (L : List ℕ) (t size : ℕ) where
  -- the old one, where no row from t starts with a smaller number
  kept : (best : Option (List ℕ)) → Best g L t size best → ((m : List ℕ) → From g L t m → length m ≡ size → IsSomeAnd best (λ row. at row 0 ≤ at m 0)) → Best g L (t + 1) size best
  kept best p f = record { some = some best p.some; least = below_more (λ (v : ℕ). (m : List ℕ) → From g L v m → length m ≡ size → IsSomeAnd best (λ row. at row 0 ≤ at m 0)) t p.least f }
    where
      some : (best : Option (List ℕ)) → IfSome best (RowBelow g L t size) → IfSome best (RowBelow g L (t + 1) size)
      some (Some old) r = record { event = r.event; below = omega (arith, r.below); found = r.found }
      some None r = tt

  -- a closed row starts with a number of a fact from its event, so none from t starts below the smallest of these
  pub best-passed : (best : Option (List ℕ)) → Best g L t size best → (low : Option ℕ) → Lowest g L t low → (IsSomeAnd low (λ j. GoesBefore j best) → ⊥) → Best g L (t + 1) size best
  best-passed best p low n h = kept best p (λ m f e. from-first m f)
    where
      from-first : (m : List ℕ) → From g L t m → IsSomeAnd best (λ row. at row 0 ≤ at m 0)
      from-first [] f = absurd (omega (arith, f.negative))
      from-first (j ∷ m) f = not-below best low (n.least j f.path.0 f.path.1) h
        where
          not-below : (best : Option (List ℕ)) (low : Option ℕ) → IsSomeAnd low (λ r. r ≤ j) → (IsSomeAnd low (λ j. GoesBefore j best) → ⊥) → IsSomeAnd best (λ row. at row 0 ≤ j)
          not-below best None l h = elim l [ ]
          not-below None (Some r) l h = absurd (h tt)
          not-below (Some row) (Some r) l h = omega (arith, h)

  -- where none is found there is none of this size
  pub best-kept : (best : Option (List ℕ)) → Best g L t size best → Looks g L t size None → Best g L (t + 1) size best
  best-kept best p q = kept best p (λ m f e. absurd (omega (arith, q.none refl m f)))

  -- of the old and the new one that with the smaller first number
  module _ (wide : size ≤ row_bytes) (new : List ℕ) (q : Looks g L t size (Some new)) where
    pub best-new : (best : Option (List ℕ)) → Best g L t size best → GoesBefore (at new 0) best → Best g L (t + 1) size (Some new)
    best-new best p l =
        record {
          some = record { event = t; below = omega arith; found = q.some };
          least = below_more (λ (v : ℕ). (m : List ℕ) → From g L v m → length m ≡ size → at new 0 ≤ at m 0) t (λ v k m f e. before best (p.least v k m f e) l) (row-least g L t size new wide q.some);
        }
      where
        before : {k : ℕ} (best : Option (List ℕ)) → IsSomeAnd best (λ row. at row 0 ≤ k) → GoesBefore (at new 0) best → at new 0 ≤ k
        before (Some old) a b = omega arith
        before None a b = elim a [ ]

    pub best-old : (best : Option (List ℕ)) → Best g L t size best → (GoesBefore (at new 0) best → ⊥) → Best g L (t + 1) size best
    best-old best p l = kept best p (λ m f e. after best (row-least g L t size new wide q.some m f e) l)
      where
        after : {k : ℕ} (best : Option (List ℕ)) → at new 0 ≤ k → (GoesBefore (at new 0) best → ⊥) → IsSomeAnd best (λ row. at row 0 ≤ k)
        after (Some old) a b = omega (arith, b)
        after None a b = absurd (b tt)

-- ---- the best of all events
-- no closed row of its size comes before it: one that starts with the same number leaves the same event
pub best-first : (g : Net) (L : List ℕ) (n size : ℕ) (row : List ℕ) → size ≤ row_bytes → Best g L n size (Some row) → (r : RowBelow g L n size row) → (v : ℕ) → v < n → (m : List ℕ) → From g L v m → length m ≡ size → m ≺ r.found.list → ⊥
best-first g L n size row wide b r v h m f e o = go (dec_lt (at l 0) (at m 0))
  where
    l : List ℕ
    l = r.found.list

    same : at m 0 ≡ at l 0 → v ≡ r.event
    same i = sym (from_tail g L v m f) ∙ ap (λ (j : ℕ). tail g j) i ∙ from_tail g L r.event l r.found.first.closed

    go : Dec (at l 0 < at m 0) → ⊥
    go (yes k) = head-after m l k o
    go (no k) =
        let i : at m 0 ≡ at l 0 = omega (arith, k, b.least v h m f e, row-first g L r.event size row wide r.found) in
        r.found.first.first m (subst (λ (u : ℕ). From g L u m) (same i) f) (e ∙ sym r.found.long) o

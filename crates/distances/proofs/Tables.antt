-- A table extended row by row, into another one or where it lies. Assumes nothing.
use Rattle.std.proofs.lemmas.Nat.{same_from_place}
use mathlib.Core.Path.{◌≡◌, sym, ap, ap₂, ◌∙◌}
use mathlib.Core.Logic.{◌⊎◌, inl, inr, ⊎_elim, by_cases}
use mathlib.Core.List.{List}
use Prim.Native.Nat.{ℕ, suc, ◌+◌, ◌*◌, ◌-◌, ◌<◌, ◌≤◌}
use native.Mathlib.Nat.{suc-mul, mul-le-mul_right}
use native.Mathlib.Omega.{arith}
use native.Mathlib.Decide.{ℕ_discrete}
use lib.ListN.{length}
use Rattle.laws.proofs.Order.{lt-or-ge}
use Rattle.problem.specs.Arcs.{at}
use Rattle.distances.specs.Numbers.{shift, lowered, turn}
use Rattle.distances.specs.Rows.{Clear, Outside, RowLowered, new_number, Room, apart, in_place, Extended}
use Rattle.distances.proofs.Numbers.{place, lowered-self}

-- the first u rows are extended; the others, and the row of the fact's end, are still to be read as they were
pub record Extending (r s : List ℕ) (from to w n x y b u : ℕ) : Type 0 where
  pub long : length s ≡ length r
  pub done : (i v : ℕ) → i < u → v < n → at s (to + (i * w + v)) ≡ new_number r from w x y b i v
  pub ahead : (i v : ℕ) → u ≤ i → i < n → v < n → at s (from + (i * w + v)) ≡ at r (from + (i * w + v))
  pub through : (v : ℕ) → v < n → at s (from + (x * w + v)) ≡ at r (from + (x * w + v))
  pub rest : (k : ℕ) → Outside k to w n → at s k ≡ at r k

-- a later row lies past an earlier one
pub row-past : (w i j : ℕ) → i < j → i * w + w ≤ j * w
row-past w i j l = omega (arith, mul-le-mul_right w (let h : suc i ≤ j = l in h), suc-mul i w)

-- the row of a turn lies in the table
pub row_in : (row u w n : ℕ) → row ≡ u * w → u < n → row + w ≤ n * w
row_in row u w n e l = omega (arith, row-past w u n l, e)

-- an entry for an event past the last is outside it
pub past-outside : (to w n u v : ℕ) → n ≤ w → v < w → (n ≤ u) ⊎ (n ≤ v) → Outside (to + (u * w + v)) to w n
past-outside to w n u v wide a o i j l m e = go (same_from_place u v i j w a (omega arith) (omega arith)) o
  where
    go : (u ≡ i) × (v ≡ j) → (n ≤ u) ⊎ (n ≤ v) → ⊥
    go (p, q) (inl h) = omega arith
    go (p, q) (inr h) = omega arith

module _ (r : List ℕ) (from to w n x y b : ℕ) where
  pub extending-all : (s : List ℕ) → Extending r s from to w n x y b n → Extended r s from to w n x y b
  extending-all s h = record { long = h.long; each = h.done; rest = h.rest }

  module _ (wide : n ≤ w) (end : x < n) (start : y < n) (room : Room r from to w n x y b) where
    -- the rows that a turn reads are clear of the row that it writes
    pub clear-own : (u : ℕ) → u < n → Clear (from + u * w) (to + u * w) n
    clear-own u l = go room
      where
        go : Room r from to w n x y b → Clear (from + u * w) (to + u * w) n
        go (apart h) = inr (omega (arith, row-past w u n l))
        go (in_place e f) = inl (omega arith)

    pub clear-through : (u : ℕ) → u < n → Clear (from + x * w) (to + u * w) n
    clear-through u l = go room
      where
        go : Room r from to w n x y b → Clear (from + x * w) (to + u * w) n
        go (apart h) = inr (omega (arith, row-past w x n end))
        go (in_place e f) = ⊎_elim (λ (k : x < u). inr (omega (arith, row-past w x u k))) (λ (k : u ≤ x). inl (omega (arith, mul-le-mul_right w k))) (lt-or-ge x u)

    module _ (s z : List ℕ) (u t : ℕ) (l : u < n) (h : Extending r s from to w n x y b u) (e : t ≡ shift (at r (from + (u * w + y))) b) (k : RowLowered s z (from + u * w) (to + u * w) (from + x * w) n t) where
      -- the row of this turn
      this : (v : ℕ) → v < n → at z (to + (u * w + v)) ≡ new_number r from w x y b u v
      this v m =
          let p : to + (u * w + v) ≡ to + u * w + v = omega arith in
          let q : from + u * w + v ≡ from + (u * w + v) = omega arith in
          let g : from + x * w + v ≡ from + (x * w + v) = omega arith in
          ap (at z) p ∙ k.each v m
          ∙ ap₂ (λ (o d : ℕ). lowered o t d) (ap (at s) q ∙ h.ahead u v (omega arith) l m) (ap (at s) g ∙ h.through v m)
          ∙ ap (λ (t : ℕ). lowered (at r (from + (u * w + v))) t (at r (from + (x * w + v)))) e

      -- what lies before the row or past it
      before : (i : ℕ) → i < to + u * w → at z i ≡ at s i
      before i m = k.rest i (inl m)

      after : (i : ℕ) → to + u * w + n ≤ i → at z i ≡ at s i
      after i m = k.rest i (inr m)

      more-ahead : (i v : ℕ) → u + 1 ≤ i → i < n → v < n → at z (from + (i * w + v)) ≡ at r (from + (i * w + v))
      more-ahead i v g m j = go room ∙ h.ahead i v (omega arith) m j
        where
          go : Room r from to w n x y b → at z (from + (i * w + v)) ≡ at s (from + (i * w + v))
          go (apart c) = before (from + (i * w + v)) (omega (arith, place n w i v m (omega arith)))
          go (in_place c f) = after (from + (i * w + v)) (omega (arith, row-past w u i (omega arith)))

      still-through : (v : ℕ) → v < n → at z (from + (x * w + v)) ≡ at r (from + (x * w + v))
      still-through v m = go room
        where
          old : at s (from + (x * w + v)) ≡ at r (from + (x * w + v))
          old = h.through v m

          same : from ≡ to → turn ≤ at r (from + (x * w + y)) + b → x ≡ u → at z (from + (x * w + v)) ≡ at r (from + (x * w + v))
          same c f q =
              ap₂ (λ (f i : ℕ). at z (f + (i * w + v))) c q ∙ this v m
              ∙ ap (λ (i : ℕ). new_number r from w x y b i v) (sym q)
              ∙ lowered-self (at r (from + (x * w + y))) b (at r (from + (x * w + v))) f

          go : Room r from to w n x y b → at z (from + (x * w + v)) ≡ at r (from + (x * w + v))
          go (apart c) = before (from + (x * w + v)) (omega (arith, place n w x v end (omega arith))) ∙ old
          go (in_place c f) =
              by_cases (ℕ_discrete x u) (same c f)
              (λ d. ⊎_elim (λ (g : x < u). before (from + (x * w + v)) (omega (arith, place u w x v g (omega arith))) ∙ old)
              (λ (g : u ≤ x). after (from + (x * w + v)) (omega (arith, row-past w u x (omega arith))) ∙ old)
              (lt-or-ge x u))

      more-rest : (i : ℕ) → Outside i to w n → at z i ≡ at r i
      more-rest i o =
          ⊎_elim (λ (g : i < to + u * w). before i g)
          (λ (g : to + u * w ≤ i). ⊎_elim (λ (f : i < to + u * w + n). absurd (o u (i - (to + u * w)) l (omega arith) (omega arith))) (λ (f : to + u * w + n ≤ i). after i f) (lt-or-ge i (to + u * w + n)))
          (lt-or-ge i (to + u * w))
          ∙ h.rest i o

      -- One row more. Into a later table nothing is read that was written. In place, the rows ahead are not yet written; the fact's own row x is, once its turn has come, but with its
      -- own numbers: a fact that fits lowers nothing in it (`lowered-self`).
      pub extending-more : Extending r z from to w n x y b (u + 1)
      extending-more =
          record {
            long = k.long ∙ h.long;
            done = λ i v m g. by_cases (ℕ_discrete i u) (λ q. rw q (this v g))
                (λ q. before (to + (i * w + v)) (omega (arith, place u w i v (omega arith) (omega arith))) ∙ h.done i v (omega arith) g);
            ahead = more-ahead;
            through = still-through;
            rest = more-rest;
          }

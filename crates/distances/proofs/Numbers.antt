-- Distances as naturals: what a number stands for, and what lowering it means. Assumes nothing.
use mathlib.Core.Path.{◌≡◌, sym, ◌∙◌}
use mathlib.Core.Logic.{inl, inr, ⊎_elim}
use Prim.Native.Nat.{ℕ, suc, ◌+◌, ◌*◌, ◌-◌, ◌<◌, ◌≤◌, min}
use native.Mathlib.Nat.{suc-mul, mul-le-mul_right}
use native.Mathlib.Omega.{arith}
use lib.Dec.{leb, leb→le, le→leb}
use lib.IntN.{pos, sub_ℕ, ◌+ℤ◌}
use lib.Signed.{le_z}
use borrow.Author.Tests.{lt-ltb, le-ltb, le-leb}
use Rattle.laws.proofs.Order.{lt-or-ge}
use Rattle.laws.proofs.Tests.{same_test}
use Rattle.problem.specs.Arcs.{bias}
use Rattle.distances.specs.Distances.{none, far}
use Rattle.distances.specs.Adding.{no_longer, and_then, closes}
use Rattle.laws.proofs.Integers.{sub-law, add-law, le-to, le_of}
use Rattle.distances.specs.Numbers.{no_way, middle, turn, blocked, distance, InRange, shift, lowered}

-- ---- places
pub place : (n w u v : ℕ) → u < n → v < w → u * w + v < n * w
place n w u v l m = omega (arith, mul-le-mul_right w (let h : suc u ≤ n = l in h), suc-mul u w)

-- no number in range is larger than none's
pub most-number : {e : ℕ} → InRange e → e ≤ no_way
most-number (inl h) = omega arith
most-number (inr h) = omega arith

-- ---- what the numbers are
pub distance-far : (e : ℕ) → e < no_way → distance e ≡ far (sub_ℕ e middle)
unfolding distance
distance-far e h = rw (lt-ltb e no_way h)

pub distance_none : (e : ℕ) → no_way ≤ e → distance e ≡ none
unfolding distance
distance_none e h = rw (le-ltb e no_way h)

pub shift-reached : (p b : ℕ) → p < no_way → shift p b ≡ p + b
unfolding shift
shift-reached p b h = rw (lt-ltb p no_way h)

pub shift-blocked : (p b : ℕ) → no_way ≤ p → shift p b ≡ blocked
unfolding shift
shift-blocked p b h = rw (le-ltb p no_way h)

pub lowered_by : (o t e : ℕ) → e < no_way → lowered o t e ≡ min o (e + t - turn)
unfolding lowered
lowered_by o t e h = rw (lt-ltb e no_way h)

pub lowered-not : (o t e : ℕ) → no_way ≤ e → lowered o t e ≡ o
unfolding lowered
lowered-not o t e h = rw (le-ltb e no_way h)

pub lowered_is : (o t e r : ℕ) → e < no_way → r ≡ min o (e + t - turn) → r ≡ lowered o t e
lowered_is o t e r h k = k ∙ sym (lowered_by o t e h)

-- ---- whether a fact fits, in numbers
pub fits-number : (e b : ℕ) → leb turn (e + b) ≡ closes (distance e) (sub_ℕ b bias)
fits-number e b = ⊎_elim reached not-reached (lt-or-ge e no_way)
  where
    reached : e < no_way → leb turn (e + b) ≡ closes (distance e) (sub_ℕ b bias)
    reached h = rw (distance-far e h) (unfold no_longer and_then in same)
      where
        same : leb turn (e + b) ≡ le_z (pos 0) (sub_ℕ e middle +ℤ sub_ℕ b bias)
        same =
            same_test (leb turn (e + b)) (le_z (pos 0) (sub_ℕ e middle +ℤ sub_ℕ b bias))
            (λ k. (le_of (pos 0) (sub_ℕ e middle +ℤ sub_ℕ b bias) (omega (arith, leb→le turn (e + b) k, add-law (sub_ℕ e middle) (sub_ℕ b bias), sub-law e middle, sub-law b bias))).le)
            (λ k. le→leb turn (e + b) (omega (arith, le-to (pos 0) (sub_ℕ e middle +ℤ sub_ℕ b bias) (record { le = k }), add-law (sub_ℕ e middle) (sub_ℕ b bias), sub-law e middle, sub-law b bias)))

    not-reached : no_way ≤ e → leb turn (e + b) ≡ closes (distance e) (sub_ℕ b bias)
    not-reached h = rw (distance_none e h) (unfold no_longer and_then in le-leb turn (e + b) (omega arith))

-- a fact that fits shortens no way from its own end
pub lowered-self : (p b e : ℕ) → turn ≤ p + b → lowered e (shift p b) e ≡ e
lowered-self p b e h = ⊎_elim reached (λ k. lowered-not e (shift p b) e k) (lt-or-ge e no_way)
  where
    reached : e < no_way → lowered e (shift p b) e ≡ e
    reached l =
        lowered_by e (shift p b) e l
        ∙ ⊎_elim (λ (k : p < no_way). rw (shift-reached p b k) (omega arith)) (λ (k : no_way ≤ p). rw (shift-blocked p b k) (omega arith)) (lt-or-ge p no_way)

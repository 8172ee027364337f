-- Dictionary order: of two lists of one length one comes first, unless they are the same; a smaller first number comes first; a list comes before a front and one number more by the front, or by that number.
-- Assumes nothing.
use mathlib.Core.Path.{◌≡◌, refl, sym, ap₂, ◌∙◌}
use mathlib.Core.Logic.{◌⊎◌, inl, inr, by_cases}
use mathlib.Core.List.{List, [], ◌∷◌, ◌++◌}
use Prim.Native.Nat.{ℕ, ◌≤◌, ◌<◌}
use native.Mathlib.Omega.{arith}
use native.Mathlib.Decide.{dec_lt}
use lib.ListN.{length}
use Rattle.meaning.specs.Plain.{◌≺◌}
use Rattle.meaning.specs.Decision.{at}

trichotomy : (i j : ℕ) → (i < j) ⊎ ((i ≡ j) ⊎ (j < i))
trichotomy i j = by_cases (dec_lt i j) inl (λ n. inr (by_cases (dec_lt j i) inr (λ m. inl (omega arith))))

-- of two lists of one length one is before the other, unless they are the same
pub in-order : (p q : List ℕ) → length p ≡ length q → (p ≺ q) ⊎ ((p ≡ q) ⊎ (q ≺ p))
in-order [] [] e = inr (inl refl)
in-order [] (j ∷ q) e = absurd (omega arith)
in-order (i ∷ p) [] e = absurd (omega arith)
in-order (i ∷ p) (j ∷ q) e = heads (trichotomy i j) (in-order p q (omega arith))
  where
    heads : (i < j) ⊎ ((i ≡ j) ⊎ (j < i)) → (p ≺ q) ⊎ ((p ≡ q) ⊎ (q ≺ p)) → ((i ∷ p) ≺ (j ∷ q)) ⊎ (((i ∷ p) ≡ (j ∷ q)) ⊎ ((j ∷ q) ≺ (i ∷ p)))
    heads (inl l) o = inl (inl l)
    heads (inr (inr l)) o = inr (inr (inl l))
    heads (inr (inl e)) (inl l) = inl (inr (e, l))
    heads (inr (inl e)) (inr (inl d)) = inr (inl (ap₂ ◌∷◌ e d))
    heads (inr (inl e)) (inr (inr l)) = inr (inr (inr (sym e, l)))

pub before-trans : (p q r : List ℕ) → p ≺ q → q ≺ r → p ≺ r
before-trans [] q r h k = h
before-trans (i ∷ p) [] r h k = absurd h
before-trans (i ∷ p) (j ∷ q) [] h k = k
before-trans (i ∷ p) (j ∷ q) (k ∷ r) (inl h) (inl g) = inl (omega arith)
before-trans (i ∷ p) (j ∷ q) (k ∷ r) (inl h) (inr (e, g)) = inl (omega arith)
before-trans (i ∷ p) (j ∷ q) (k ∷ r) (inr (e, h)) (inl g) = inl (omega arith)
before-trans (i ∷ p) (j ∷ q) (k ∷ r) (inr (e, h)) (inr (f, g)) = inr (e ∙ f, before-trans p q r h g)

-- the smaller first number comes first
pub before_head : (p q : List ℕ) → 0 < length p → 0 < length q → at p 0 < at q 0 → p ≺ q
before_head [] q m n h = absurd (omega arith)
before_head (i ∷ p) [] m n h = absurd (omega arith)
before_head (i ∷ p) (j ∷ q) m n h = inl h

-- so what nothing comes before starts with no larger number
pub head_first : (p q : List ℕ) → 0 < length p → 0 < length q → (p ≺ q → ⊥) → at q 0 ≤ at p 0
head_first p q m n f = by_cases (dec_lt (at p 0) (at q 0)) (λ h. absurd (f (before_head p q m n h))) (λ h. omega arith)

-- and what starts with a larger number comes not before
pub head-after : (p q : List ℕ) → at q 0 < at p 0 → p ≺ q → ⊥
head-after [] q h b = b
head-after (i ∷ p) [] h b = b
head-after (i ∷ p) (j ∷ q) h (inl b) = omega arith
head-after (i ∷ p) (j ∷ q) h (inr (e, b)) = omega arith

-- nothing comes before no numbers
pub before-none : (p : List ℕ) → p ≺ [] → ⊥
before-none [] b = b
before-none (i ∷ p) b = b

-- before a front and one number more: before the front, or the front itself and then a smaller number
pub before-one-more : (p : List ℕ) (k : ℕ) (q : List ℕ) → q ≺ (p ++ (k ∷ [])) → (q ≺ p) ⊎ ((x : ℕ) × (r : List ℕ) × (q ≡ p ++ (x ∷ r)) × (x < k))
before-one-more [] k [] b = absurd b
before-one-more [] k (x ∷ q) (inl h) = inr (x, q, refl, h)
before-one-more [] k (x ∷ q) (inr (e, b)) = absurd (before-none q b)
before-one-more (j ∷ p) k [] b = absurd b
before-one-more (j ∷ p) k (x ∷ q) (inl h) = inl (inl h)
before-one-more (j ∷ p) k (x ∷ q) (inr (e, b)) = go (before-one-more p k q b)
  where
    go : (q ≺ p) ⊎ ((y : ℕ) × (r : List ℕ) × (q ≡ p ++ (y ∷ r)) × (y < k)) → ((x ∷ q) ≺ (j ∷ p)) ⊎ ((y : ℕ) × (r : List ℕ) × ((x ∷ q) ≡ (j ∷ p) ++ (y ∷ r)) × (y < k))
    go (inl h) = inl (inr (e, h))
    go (inr (y, r, f, h)) = inr (y, r, ap₂ ◌∷◌ e f, h)

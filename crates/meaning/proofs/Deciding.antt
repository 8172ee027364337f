-- Integer times and minutes before closing: `sound` decides whether some timetable satisfies the facts, and the least numbers are the latest timetable.
-- Assumes nothing.
use mathlib.Core.Path.{◌≡◌, refl, sym, ap, ap₂, ◌∙◌, subst}
use mathlib.Core.List.{List, [], ◌∷◌}
use Prim.Native.Nat.{ℕ, zero, suc, ◌+◌, ◌-◌, ◌<◌, ◌≤◌, zero-le}
use native.Mathlib.Nat.{le_trans}
use native.Mathlib.Omega.{arith}
use lib.Dec.{T, leb→le, le→leb}
use lib.IntN.{ℤ, pos, negsuc, neg_ℤ, sub_ℕ, ◌+ℤ◌, ◌-ℤ◌, neg_ℤ-+ℤ, neg_ℤ-neg_ℤ, +ℤ_comm, +ℤ_assoc, +ℤ-neg_ℤ_cancel, +ℤ_idl}
use lib.Signed.{le_z, ◌≤ℤ◌}
use lib.ListN.{length, get_or, length-map, length-replicate, replicate, get_or-map}
use lib.Seq.{ext_get_or}
use Rattle.laws.proofs.Differences.{above-is, below-is, Minus, below, above, minus, sub_is}
use Rattle.laws.proofs.Integers.{≤ℤ-antisym}
use Rattle.meaning.specs.Problem.{Alternative, Timetable, satisfied, Satisfies, Sound}
use Rattle.meaning.specs.Plain.{Latest}
use Rattle.meaning.specs.Search.{Decides}
use Rattle.meaning.specs.Decision.{at, ask, least, latest_of, reach, sound}
use Rattle.meaning.proofs.Settling.{Each, each_map, each-map₃, In, Meets, total, total-has, rounds-length, least_under, sound-right, sound-whole}

-- a − b ≤ c is: what c asks of a is at most b
ask-of : (a b : ℕ) (c : ℤ) → T (le_z (sub_ℕ a b) c) → ask a c ≤ b
unfolding ask
ask-of a b c t = go c (minus a b) t
  where
    go : (c : ℤ) {z : ℤ} → Minus a b z → T (le_z z c) → ask a c ≤ b
    go (pos k) (below h) t = omega arith
    go (pos k) (above h) t = omega (arith, leb→le (a - b) k t)
    go (negsuc k) (below h) t = omega (arith, leb→le k (b - suc a) t)
    go (negsuc k) (above h) t = absurd t

of-ask : (a b : ℕ) (c : ℤ) → ask a c ≤ b → T (le_z (sub_ℕ a b) c)
unfolding ask
of-ask a b c h = go c (minus a b) h
  where
    go : (c : ℤ) {z : ℤ} → Minus a b z → ask a c ≤ b → T (le_z z c)
    go (pos k) (below h) t = tt
    go (pos k) (above h) t = le→leb (a - b) k (omega arith)
    go (negsuc k) (below h) t = le→leb k (b - suc a) (omega arith)
    go (negsuc k) (above h) t = omega arith

-- the times M − s differ as the numbers s do, turned round
apart : (M x y : ℕ) → (pos M -ℤ pos x) -ℤ (pos M -ℤ pos y) ≡ sub_ℕ y x
apart M x y =
    ap₂ ◌+ℤ◌ (+ℤ_comm (pos M) (neg_ℤ (pos x))) (neg_ℤ-+ℤ (pos M) (neg_ℤ (pos y)) ∙ ap (λ z. neg_ℤ (pos M) +ℤ z) (neg_ℤ-neg_ℤ (pos y)))
    ∙ sym (+ℤ_assoc (neg_ℤ (pos x) +ℤ pos M) (neg_ℤ (pos M)) (pos y))
    ∙ ap (λ z. z +ℤ pos y) (+ℤ-neg_ℤ_cancel (neg_ℤ (pos x)) (pos M))
    ∙ +ℤ_comm (neg_ℤ (pos x)) (pos y)
    ∙ sub_is y x

-- how far a time lies before M
short : ℕ → ℤ → ℕ
short M (pos k) = M - k
short M (negsuc k) = M + suc k

-- how far it lies past 0
past : ℤ → ℕ
past (pos k) = k
past (negsuc k) = 0

short-is : (M : ℕ) (z : ℤ) → past z ≤ M → z ≡ pos M -ℤ pos (short M z)
unfolding short past
short-is M (pos k) h = sym (sub_is M (M - k) ∙ above-is M (M - k) (omega arith) ∙ ap pos (omega arith))
short-is M (negsuc k) h = sym (sub_is M (M + suc k) ∙ below-is M (M + suc k) (omega arith) ∙ ap negsuc (omega arith))

-- times that are M less numbers satisfy an alternative exactly where the numbers meet it
meets-of : (M : ℕ) (t : Timetable) (σ : ℕ → ℕ) (a : Alternative) → t a.x ≡ pos M -ℤ pos (σ a.x) → t a.y ≡ pos M -ℤ pos (σ a.y) → T (satisfied t a) → Meets σ a
unfolding satisfied
meets-of M t σ a p q h =
    ask-of (σ a.y) (σ a.x) a.c
    (subst (λ (z : ℤ). T (le_z z a.c)) (ap₂ ◌-ℤ◌ p q ∙ apart M (σ a.x) (σ a.y)) h)

of_meets : (M : ℕ) (t : Timetable) (σ : ℕ → ℕ) (a : Alternative) → t a.x ≡ pos M -ℤ pos (σ a.x) → t a.y ≡ pos M -ℤ pos (σ a.y) → Meets σ a → T (satisfied t a)
unfolding satisfied
of_meets M t σ a p q h =
    subst (λ (z : ℤ). T (le_z z a.c)) (sym (ap₂ ◌-ℤ◌ p q ∙ apart M (σ a.x) (σ a.y)))
    (of-ask (σ a.y) (σ a.x) a.c h)

pub satisfies-each : (t : Timetable) (fs : List Alternative) → Satisfies t fs → Each (λ a. T (satisfied t a)) fs
satisfies-each t [] h = tt
satisfies-each t (a ∷ more) h = (h.0, satisfies-each t more h.1)

pub each-satisfies : (t : Timetable) (fs : List Alternative) → Each (λ a. T (satisfied t a)) fs → Satisfies t fs
each-satisfies t [] h = tt
each-satisfies t (a ∷ more) h = (h.0, each-satisfies t more h.1)

-- the timetable of the numbers s: s minutes before closing
pub day : (ℕ → ℕ) → Timetable
day σ e = pos 0 -ℤ pos (σ e)

pub day-satisfies : (σ : ℕ → ℕ) (fs : List Alternative) → Each (Meets σ) fs → Satisfies (day σ) fs
unfolding day
day-satisfies σ fs m = each-satisfies (day σ) fs (each_map fs (λ a h. of_meets 0 (day σ) σ a refl refl h) m)

-- the numbers of a timetable, before a minute that no time of the n events passes
pub numbers : ℕ → Timetable → ℕ → ℕ
numbers n t e = short (total (λ i. past (t i)) n) (t e)

pub numbers-meet : (n : ℕ) (t : Timetable) (fs : List Alternative) → Each (In n) fs → Satisfies t fs → Each (Meets (numbers n t)) fs
unfolding numbers
numbers-meet n t fs i h =
    each-map₃ fs
    (λ a k g f. meets-of M t (numbers n t) a (short-is M (t a.x) (total-has (λ j. past (t j)) n a.x k.0))
    (short-is M (t a.y) (total-has (λ j. past (t j)) n a.y k.1)) g)
    i (satisfies-each t fs h) (satisfies-each t fs h)
  where
    M : ℕ
    M = total (λ j. past (t j)) n

In-more : {m n : ℕ} (fs : List Alternative) → m ≤ n → Each (In m) fs → Each (In n) fs
In-more fs l i = each_map fs (λ a h. (le_trans h.0 l, le_trans h.1 l)) i

pub reach-in : (fs : List Alternative) → Each (In (reach fs)) fs
unfolding reach
reach-in [] = tt
reach-in (a ∷ more) = ((omega arith, omega arith), In-more more (omega arith) (reach-in more))

-- `sound` decides
pub sound-decides : Decides sound
unfolding sound
sound-decides =
    record {
      right = λ fs t. (day (at (least (reach fs) fs)), day-satisfies (at (least (reach fs) fs)) fs (sound-right (reach fs) fs t));
      whole = λ fs t h. sound-whole (reach fs) fs (reach-in fs) (numbers (reach fs) t) (numbers-meet (reach fs) t fs (reach-in fs) h);
    }

-- ---- the latest timetable
pub no-later : (a b : ℕ) → b ≤ a → neg_ℤ (pos a) ≤ℤ neg_ℤ (pos b)
no-later zero zero h = record { le = tt }
no-later zero (suc b) h = absurd (none h)
  where
    none : suc b ≤ 0 → ⊥
    none h = omega arith
no-later (suc a) zero h = record { le = tt }
no-later (suc a) (suc b) h = record { le = le→leb b a (omega arith) }

past-closing : (z : ℤ) → z ≤ℤ pos 0 → past z ≤ 0
unfolding past
past-closing (pos k) h = leb→le k 0 h.le
past-closing (negsuc k) h = zero-le

from-closing : (z : ℤ) → z ≤ℤ pos 0 → z ≡ neg_ℤ (pos (short 0 z))
from-closing z h = short-is 0 z (past-closing z h) ∙ +ℤ_idl (neg_ℤ (pos (short 0 z)))

module _ (n : ℕ) (fs : List Alternative) (inside : Each (In n) fs) where
  pub at-latest : (e : ℕ) → get_or (latest_of n fs) e (pos 0) ≡ neg_ℤ (pos (at (least n fs) e))
  unfolding latest_of
  at-latest e = get_or-map (λ s. neg_ℤ (pos s)) (least n fs) e 0

  at-day : (e : ℕ) → get_or (latest_of n fs) e (pos 0) ≡ pos 0 -ℤ pos (at (least n fs) e)
  at-day e = at-latest e ∙ sym (+ℤ_idl (neg_ℤ (pos (at (least n fs) e))))

  latest-size : length (latest_of n fs) ≡ n
  unfolding latest_of least
  latest-size = length-map (least n fs) (λ s. neg_ℤ (pos s)) ∙ rounds-length n fs (replicate n 0) ∙ length-replicate n 0

  -- where some timetable satisfies the facts, the least numbers meet them
  pub least-met : Sound fs → Each (Meets (at (least n fs))) fs
  least-met y = sound-right n fs (sound-whole n fs inside (numbers n y.0) (numbers-meet n y.0 fs inside y.1))

  -- the latest timetable exists where any exists
  pub latest-is : Sound fs → Latest n fs (latest_of n fs)
  latest-is y =
      record {
        size = latest-size;
        keeps = each-satisfies _ fs (each_map fs (λ a h. of_meets 0 _ (at (least n fs)) a (at-day a.x) (at-day a.y) h) (least-met y));
        closing = λ e. subst (λ z. z ≤ℤ pos 0) (sym (at-latest e)) (no-later (at (least n fs) e) 0 zero-le);
        latest = late;
      }
    where
      late : (t : Timetable) → Satisfies t fs → ((e : ℕ) → e < n → t e ≤ℤ pos 0) → (e : ℕ) → e < n → t e ≤ℤ get_or (latest_of n fs) e (pos 0)
      late t h c e l =
          subst (λ z. t e ≤ℤ z) (sym (at-latest e))
          (subst (λ z. z ≤ℤ neg_ℤ (pos (at (least n fs) e))) (sym (from-closing (t e) (c e l)))
          (no-later (short 0 (t e)) (at (least n fs) e)
          (least_under n fs inside (λ i. short 0 (t i))
          (each-map₃ fs
          (λ a k g f. meets-of 0 t (λ i. short 0 (t i)) a (short-is 0 (t a.x) (past-closing (t a.x) (c a.x k.0)))
          (short-is 0 (t a.y) (past-closing (t a.y) (c a.y k.1))) g)
          inside (satisfies-each t fs h) (satisfies-each t fs h))
          e)))

-- there is one latest timetable
pub latest-one : (n : ℕ) (fs : List Alternative) (l m : List ℤ) → Latest n fs l → Latest n fs m → l ≡ m
latest-one n fs l m h k =
    ext_get_or (pos 0) l m (h.size ∙ sym k.size)
    (λ i b.
    let c : i < n = subst (λ (z : ℕ). i < z) h.size b in
    ≤ℤ-antisym (k.latest (λ e. get_or l e (pos 0)) h.keeps (λ e x. h.closing e) i c)
    (h.latest (λ e. get_or m e (pos 0)) k.keeps (λ e x. k.closing e) i c))

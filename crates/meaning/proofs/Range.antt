-- No number of the least ones exceeds (n − 1) · W, where no fact asks for more than W above another event. Assumes nothing.
use mathlib.Core.Path.{sym, subst}
use mathlib.Core.Bool.{Bool, true}
use mathlib.Core.Logic.{⊎_elim, by_cases}
use mathlib.Core.List.{List}
use Prim.Native.Nat.{ℕ, zero, suc, ◌+◌, ◌-◌, ◌*◌, ◌<◌, ◌≤◌}
use native.Mathlib.Nat.{le_refl, le_trans, zero-mul, suc-mul, mul-le-mul_right}
use native.Mathlib.Decide.{dec_lt}
use native.Mathlib.Omega.{arith, by_contra}
use lib.Dec.{T, ltb, ltb→lt, lt→ltb}
use lib.IntN.{ℤ, pos, negsuc, nat_abs}
use lib.Signed.{◌≤ℤ◌}
use Rattle.meaning.specs.Limits.{most_events, most_bound, longest_day}
use Rattle.meaning.specs.Problem.{Alternative, Sound}
use Rattle.meaning.specs.Plain.{times_of}
use Rattle.meaning.specs.Decision.{at, ask, least, time_of, latest_of}
use Rattle.meaning.proofs.Accepted.{Bounded}
use Rattle.meaning.proofs.Deciding.{at-latest, no-later, least-met, latest-is}
use Rattle.meaning.proofs.Settling.{Each, each_map, each-map₃, In, Meets, tally, tally-none, tally-zero, tally-most, progress, lower, lowered, Lower, less, same, ask-less, ask-mono, least_under}

-- a fact asks for at most W above
abbrev pub Small : ℕ → Alternative → Type 0
Small W a = (s : ℕ) → ask s a.c ≤ s + W

module _ (n : ℕ) (fs : List Alternative) (inside : Each (In n) fs) (met : Each (Meets (at (least n fs))) fs) (W : ℕ) (small : Each (Small W) fs) where
  L : ℕ → ℕ
  L = at (least n fs)

  over : ℕ → ℕ → Bool
  over g e = ltb g (L e)

  -- where no number lies above g and at most W above it, none lies higher
  no_gap : (g : ℕ) → ((e : ℕ) → e < n → g < L e → g + W < L e) → (e : ℕ) → e < n → g + W < L e → ⊥
  unfolding L
  no_gap g h e l k = contra (lowered (g + W) (L e)) (least_under n fs inside (λ i. lower (g + W) (L i)) (each-map₃ fs lowers inside met small) e)
    where
      contra : {m : ℕ} → Lower (g + W) (L e) m → L e ≤ m → ⊥
      contra (less j) q = omega arith
      contra (same j) q = omega arith

      below : {y s : ℕ} → Lower (g + W) y s → s ≤ y
      below {y} (less j) = omega arith
      below {y} (same j) = le_refl y

      lowers : (a : Alternative) → In n a → Meets L a → Small W a → Meets (λ i. lower (g + W) (L i)) a
      lowers a i m z = go (lowered (g + W) (L a.x)) (lowered (g + W) (L a.y))
        where
          go : {r s : ℕ} → Lower (g + W) (L a.x) r → Lower (g + W) (L a.y) s → ask s a.c ≤ r
          go (same j) q = le_trans (ask-mono a.c (below q)) m
          go (less j) (less q) = ask-less (L a.y) (L a.x) a.c (omega arith) (omega arith) m
          go (less j) (same q) =
              by_cases (dec_lt g (L a.y)) (λ u. absurd (clash (h a.y i.1 u) q)) (λ u. le_trans (z (L a.y)) (omega arith))
            where
              clash : {u v : ℕ} → u < v → v ≤ u → ⊥
              clash u v = omega arith

  -- at least one event is at closing
  some-zero : 0 < n → tally (over 0) n < n
  unfolding L over
  some-zero z =
      ⊎_elim (λ l. omega (arith, tally-most (λ e. true) n))
      (λ all. absurd (contra (lowered 0 (L 0)) (least_under n fs inside (λ i. lower 0 (L i)) (each-map₃ fs (lowers all) inside met small) 0)
      (ltb→lt 0 (L 0) (all 0 z tt))))
      (progress (λ e. true) (over 0) (λ e t. tt) n)
    where
      contra : {m : ℕ} → Lower 0 (L 0) m → L 0 ≤ m → 0 < L 0 → ⊥
      contra (less j) q r = omega arith
      contra (same j) q r = omega arith

      lowers : ((e : ℕ) → e < n → T true → T (over 0 e)) → (a : Alternative) → In n a → Meets L a → Small W a → Meets (λ i. lower 0 (L i)) a
      lowers all a i m s =
          go (lowered 0 (L a.x)) (lowered 0 (L a.y)) (ltb→lt 0 (L a.x) (all a.x i.0 tt)) (ltb→lt 0 (L a.y) (all a.y i.1 tt))
        where
          go : {r s : ℕ} → Lower 0 (L a.x) r → Lower 0 (L a.y) s → 0 < L a.x → 0 < L a.y → ask s a.c ≤ r
          go (same j) q hx hy = omega arith
          go (less j) (less q) hx hy = ask-less (L a.y) (L a.x) a.c hy hx m
          go (less j) (same q) hx hy = omega arith

  fewer : 0 < n → (k : ℕ) → tally (over (k * W)) n ≤ n - 1 - k
  unfolding over
  fewer z zero = subst (λ (g : ℕ). tally (over g) n ≤ n - 1 - 0) (sym (zero-mul W)) (omega (arith, some-zero z))
  fewer z (suc k) =
      subst (λ (g : ℕ). tally (over g) n ≤ n - 1 - suc k) (sym (suc-mul k W))
      (⊎_elim (λ l. omega (arith, fewer z k))
      (λ h. omega (arith, tally-none (over (k * W + W)) n (λ e l t. no_gap (k * W) (λ i m u. ltb→lt (k * W + W) (L i) (h i m (lt→ltb (k * W) (L i) u))) e l (ltb→lt (k * W + W) (L e) t))))
      (progress (over (k * W)) (over (k * W + W)) (λ e t. lt→ltb (k * W) (L e) (omega (arith, ltb→lt (k * W + W) (L e) t))) n))

  -- no event lies more than (n − 1) · W minutes before closing
  pub least-bound : (e : ℕ) → e < n → at (least n fs) e ≤ (n - 1) * W
  unfolding L over
  least-bound e l =
      by_contra _ _ (λ h. tally-zero (over ((n - 1) * W)) n (omega (arith, fewer (omega arith) (n - 1))) e l (lt→ltb ((n - 1) * W) (L e) h))

-- a bound within its limits asks for no more than the limit
small_of : (a : Alternative) → Bounded a → Small most_bound a
small_of a h s = go a.c h
  where
    go : (c : ℤ) → nat_abs c ≤ most_bound → ask s c ≤ s + most_bound
    go (pos k) l = unfold ask in omega arith
    go (negsuc k) l = unfold ask in omega arith

-- every time of a selection's latest timetable lies between the longest day before closing and closing
pub latest-range : (n : ℕ) (fs : List Alternative) → n ≤ most_events → Each (In n) fs → Each Bounded fs → Sound fs → (e : ℕ) → e < n → (time_of longest_day ≤ℤ times_of (latest_of n fs) e) × (times_of (latest_of n fs) e ≤ℤ pos 0)
latest-range n fs few inside bounded y e l = (
  subst (λ z. time_of longest_day ≤ℤ z) (sym (at-latest n fs inside e))
      (no-later longest_day (at (least n fs) e)
      (le_trans (least-bound n fs inside (least-met n fs inside y) most_bound (each_map fs small_of bounded) e l) (within few))),
  (latest-is n fs inside y).closing e,
)
  where
    within : n ≤ most_events → (n - 1) * most_bound ≤ longest_day
    within h = omega (arith, mul-le-mul_right most_bound (let q : n - 1 ≤ most_events - 1 = omega arith in q))

-- From a fresh day no distance leaves its range: over n events and facts of bounds within ±W, none lies beyond ±(n − 1) · W. Assumes nothing.
-- The events whose distance from u lies within ±k · W grow in number with k, until no way leads out of them.
use mathlib.Core.Path.{◌≡◌, refl, sym, ap, ◌∙◌, subst}
use mathlib.Core.Bool.{Bool, true, false}
use mathlib.Core.Logic.{◌⊎◌, inl, inr, ⊎_elim}
use mathlib.Core.List.{List, Memᴰ}
use Prim.Native.Nat.{ℕ, zero, suc, ◌-◌, ◌*◌, ◌<◌, ◌≤◌, zero-le}
use native.Mathlib.Nat.{suc-mul, mul-le-mul_right}
use native.Mathlib.Omega.{arith, by_contra}
use lib.Dec.{T, leb, leb→le, le→leb}
use lib.IntN.{ℤ, pos, nat_abs, ◌+ℤ◌}
use lib.Signed.{◌≤ℤ◌, ≤ℤ_refl}
use Rattle.meaning.specs.Problem.{Alternative}
use Rattle.meaning.proofs.Settling.{tally, tally-most, tally-zero, progress}
use Rattle.meaning.specs.Limits.{most_events}
use Rattle.problem.specs.Arcs.{bias}
use Rattle.distances.specs.Distances.{Walk, stay, onward, Distance, none, far, Table, DayOf}
use Rattle.distances.specs.Numbers.{Reach, nowhere, within}
use Rattle.laws.proofs.Integers.{up, down, add-law, le-to, le_of, ≤ℤ-trans, ≤ℤ-antisym, +ℤ-mono, abs-sum}
use Rattle.distances.proofs.Distances.{at-most-far, far-one, far-at-most}
use Rattle.distances.proofs.Updating.{step}
use Rattle.distances.proofs.Walking.{zero-itself}

-- the distance is one within ±m
near : Distance → ℕ → Bool
near none m = false
near (far z) m = leb (nat_abs z) m

near_of : {d : Distance} {z : ℤ} {m : ℕ} → d ≡ far z → nat_abs z ≤ m → T (near d m)
unfolding near
near_of {z = z} {m = m} e h = rw e (le→leb (nat_abs z) m h)

of-near : {d : Distance} {z : ℤ} {m : ℕ} → d ≡ far z → T (near d m) → nat_abs z ≤ m
unfolding near
of-near {z = z} {m = m} e t = leb→le (nat_abs z) m (rw e at t)

near-more : (d : Distance) (m k : ℕ) → m ≤ k → T (near d m) → T (near d k)
unfolding near
near-more none m k h t = t
near-more (far z) m k h t = le→leb (nat_abs z) k (omega (arith, leb→le (nat_abs z) m t))

module _ (n : ℕ) (fs : List Alternative) (d : Table) (day : DayOf n fs d) (W : ℕ) (small : (a : Alternative) → Memᴰ a fs → nat_abs a.c ≤ W) (u : ℕ) (l : u < n) where
  -- the events within ±k · W
  ring : ℕ → ℕ → Bool
  ring k v = near (d u v) (k * W)

  own : d u u ≡ far (pos 0)
  own = zero-itself n fs d day u l

  -- where no event lies in the next ring, no walk of the shortest sum leads out
  held : (k : ℕ) → ((v : ℕ) → v < n → T (ring (suc k) v) → T (ring k v)) → {v : ℕ} {s : ℤ} → Walk fs u v s → (z : ℤ) → d u v ≡ far z → s ≤ℤ z → T (ring k v)
  unfolding ring
  held k closed stay z e h = subst (λ (x : Distance). T (near x (k * W))) (sym own) (near_of {z = pos 0} refl zero-le)
  held k closed (onward {s = s} b w m) z e h =
      let (y, f, g) = at-most-far ((day.each u b.y l (day.within b m).1).least s w) in
      let (x, i, j) = at-most-far (step n fs d day u b l m (far-at-most f (≤ℤ_refl y))) in
      let q : x ≡ z = far-one (sym i ∙ e) in
      let p : s ≤ℤ y = le_of s y (omega (arith, le-to (s +ℤ b.c) z h, le-to x (y +ℤ b.c) j, add-law s b.c, add-law y b.c, ap up q, ap down q)) in
      let r : z ≡ y +ℤ b.c = exact g h j q in
      closed b.x (day.within b m).0
      (near_of e (omega (arith, ap nat_abs r, abs-sum y b.c, small b m, of-near f (held k closed w y f p), suc-mul k W)))
    where
      exact : {x y : ℤ} → y ≤ℤ s → (s +ℤ b.c) ≤ℤ z → x ≤ℤ (y +ℤ b.c) → x ≡ z → z ≡ y +ℤ b.c
      exact {x} {y} g h j q =
          ≤ℤ-antisym (subst (λ (r : ℤ). r ≤ℤ (y +ℤ b.c)) q j) (≤ℤ-trans (+ℤ-mono g (≤ℤ_refl b.c)) h)

  -- all distances from u lie within ±k · W
  All : ℕ → Type 0
  All k = (v : ℕ) → v < n → (z : ℤ) → d u v ≡ far z → T (ring k v)

  all_more : (k : ℕ) → All k → All (suc k)
  unfolding All ring
  all_more k h v m z e = near-more (d u v) (k * W) (suc k * W) (omega (arith, suc-mul k W)) (h v m z e)

  filled : (k : ℕ) → All k ⊎ (k < tally (ring k) n)
  unfolding All ring
  filled zero = inr (by_contra _ _ (λ g. tally-zero (ring 0) n (omega arith) u l (near_of {z = pos 0} own zero-le)))
  filled (suc k) =
      ⊎_elim (λ h. inl (all_more k h))
      (λ h. ⊎_elim (λ g. inr (omega arith))
      (λ closed. inl (all_more k (λ v m z e. held k closed ((day.each u v l m).walked z e) z e (≤ℤ_refl z))))
      (progress (ring (suc k)) (ring k) (λ v t. near-more (d u v) (k * W) (suc k * W) (omega (arith, suc-mul k W)) t) n))
      (filled k)

  -- every distance from u lies within ±(n − 1) · W
  pub all_near : (v : ℕ) → v < n → (z : ℤ) → d u v ≡ far z → nat_abs z ≤ (n - 1) * W
  unfolding All ring
  all_near v m z e =
      of-near e
      (⊎_elim (λ h. h v m z e)
      (λ h. ⊎_elim (λ g. absurd (too_many h g (tally-most (λ v. true) n))) (λ g. g v m tt) (progress (λ v. true) (ring (n - 1)) (λ v t. tt) n))
      (filled (n - 1)))
    where
      too_many : {a b : ℕ} → n - 1 < a → a < b → b ≤ n → ⊥
      too_many h g k = omega arith

-- "which never happens from a fresh day": facts that are alternatives or opposites of some leave no entry out of range
pub in_reach : (n : ℕ) (fs : List Alternative) (d : Table) → DayOf n fs d → n ≤ most_events → ((a : Alternative) → Memᴰ a fs → nat_abs a.c ≤ bias) → (u v : ℕ) → u < n → v < n → Reach (d u v)
in_reach n fs d day few small u v l m = go (d u v) refl
  where
    go : (e : Distance) → d u v ≡ e → Reach e
    go none h = nowhere
    go (far z) h = within {z = z} (omega (arith, all_near n fs d day bias small u l v m z h, mul-le-mul_right bias (let q : n - 1 ≤ 23 = omega arith in q)))

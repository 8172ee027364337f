-- The latest timetable, read off a day: its facts are sound; and a new fact fits exactly where the facts with it are sound. Assumes nothing.
use mathlib.Core.Path.{◌≡◌, refl, sym, ap, ap₂, subst}
use mathlib.Core.Logic.{◌⊎◌, inl, inr, ⊎_elim, by_cases}
use mathlib.Core.List.{List, ◌∷◌, Memᴰ}
use Prim.Native.Nat.{ℕ, zero, suc, ◌<◌}
use native.Mathlib.Omega.{arith}
use native.Mathlib.Decide.{dec_lt}
use lib.Dec.{T}
use lib.IntN.{ℤ, pos, ◌+ℤ◌, ◌-ℤ◌}
use lib.Signed.{le_z, ◌≤ℤ◌, ≤ℤ_refl}
use lib.ListN.{length, get_or-eq_default}
use Rattle.laws.proofs.Tests.{same_test}
use Rattle.meaning.specs.Problem.{Alternative, Timetable, satisfied, Satisfies, Sound}
use Rattle.meaning.specs.Plain.{Latest, times_of}
use Rattle.meaning.specs.Decision.{sound, latest_of}
use Rattle.meaning.proofs.Settling.{Each, In}
use Rattle.meaning.proofs.Deciding.{sound-decides, latest-is, latest-one}
use Rattle.distances.specs.Distances.{Distance, none, far, AtMost, most, Table, DayOf}
use Rattle.distances.specs.Adding.{lesser, fits, added, nearer, soonest, latest_by}
use Rattle.laws.proofs.Integers.{add-law, le-to, le_of, ≤ℤ-trans}
use Rattle.distances.proofs.Distances.{lesser-is, lesser-first, lesser-second, far-at-most}
use Rattle.distances.proofs.Walking.{satisfies-member, members-satisfied, sum-satisfied, walk_kept}
use Rattle.distances.proofs.Updating.{itself, step, fits_whole, added-day}

-- ---- the least of 0 and some distances
nearer-old : (d : Distance) (z : ℤ) → nearer d z ≤ℤ z
unfolding nearer
nearer-old none z = ≤ℤ_refl z
nearer-old (far a) z = lesser-second a z

nearer-new : (d : Distance) (z : ℤ) {s : ℤ} → AtMost d s → nearer d z ≤ℤ s
unfolding nearer
nearer-new none z {s = s} x' = elim x' [ ]
nearer-new (far a) z (most h) = ≤ℤ-trans (lesser-first a z) h

nearer-is : (d : Distance) (z : ℤ) → (nearer d z ≡ z) ⊎ (d ≡ far (nearer d z))
unfolding nearer
nearer-is none z = inl refl
nearer-is (far a) z = ⊎_elim (λ (h : (a ≤ℤ z) × (lesser a z ≡ a)). inr (ap far (sym h.1))) (λ (h : (z ≤ℤ a) × (lesser a z ≡ z)). inl h.1) (lesser-is a z)

pub soonest-zero : (k : ℕ) (f : ℕ → Distance) → soonest k f ≤ℤ pos 0
unfolding soonest
soonest-zero zero f = ≤ℤ_refl (pos 0)
soonest-zero (suc k) f = ≤ℤ-trans (nearer-old (f k) (soonest k f)) (soonest-zero k f)

pub soonest-under : (k : ℕ) (f : ℕ → Distance) (j : ℕ) {s : ℤ} → j < k → AtMost (f j) s → soonest k f ≤ℤ s
unfolding soonest
soonest-under zero f j l h = absurd (omega arith)
soonest-under (suc k) f j {s} l h =
    by_cases (dec_lt j k) (λ m. ≤ℤ-trans (nearer-old (f k) (soonest k f)) (soonest-under k f j m h))
    (λ m. let e : j ≡ k = omega arith in nearer-new (f k) (soonest k f) (rw e at h))

-- 0, or one of the distances
data Attained (k : ℕ) (f : ℕ → Distance) : ℤ → Type 0 where
  source : Attained k f (pos 0)
  from : {z : ℤ} (j : ℕ) → j < k → f j ≡ far z → Attained k f z

wider : {k : ℕ} {f : ℕ → Distance} {z : ℤ} → Attained k f z → Attained (suc k) f z
wider source = source
wider (from j l e) = from j (omega arith) e

soonest-is : (k : ℕ) (f : ℕ → Distance) → Attained k f (soonest k f)
unfolding soonest
soonest-is zero f = source
soonest-is (suc k) f =
    ⊎_elim (λ e. subst (Attained (suc k) f) (sym e) (wider (soonest-is k f))) (λ e. from k (omega arith) e)
    (nearer-is (f k) (soonest k f))

module _ (n : ℕ) (fs : List Alternative) (d : Table) (day : DayOf n fs d) where
  -- The latest timetable keeps every fact: the least time of the fact's start is 0 or a distance from some event, and from there, or from the start itself, the fact leads on to its
  -- end, so that the least time of the end is no later than the bound allows.
  pub latest-keeps : Satisfies (latest_by n d) fs
  latest-keeps = members-satisfied (latest_by n d) fs kept
    where
      row : ℕ → ℕ → Distance
      row v u = d u v

      later : (b : Alternative) → Memᴰ b fs → {z : ℤ} → Attained n (row b.y) z → soonest n (row b.x) ≤ℤ (z +ℤ b.c)
      later b m source = (soonest-under n (row b.x) b.y (day.within b m).1 (step n fs d day b.y b (day.within b m).1 m (itself n fs d day b.y (day.within b m).1)))
      later b m (from {z = z} j l e) = soonest-under n (row b.x) j l (step n fs d day j b l m (far-at-most e (≤ℤ_refl z)))

      kept : (b : Alternative) → Memᴰ b fs → T (satisfied (latest_by n d) b)
      kept b m = unfold latest_by in
          sum-satisfied _ b
          (omega (arith, le-to (soonest n (row b.x)) (soonest n (row b.y) +ℤ b.c) (later b m (soonest-is n (row b.y))), add-law (soonest n (row b.y)) b.c))

  -- the facts of a day are sound
  pub day-sound : Sound fs
  day-sound = (latest_by n d, latest-keeps)

  -- no timetable with nothing after closing is later
  pub none-later : (t : Timetable) → Satisfies t fs → ((e : ℕ) → e < n → t e ≤ℤ pos 0) → (v : ℕ) → v < n → t v ≤ℤ latest_by n d v
  unfolding latest_by
  none-later t h c v l = go (soonest-is n (λ u. d u v))
    where
      go : {z : ℤ} → Attained n (λ u. d u v) z → t v ≤ℤ z
      go source = c v l
      go (from {z = z} u m e) =
          le_of (t v) z (omega (arith, walk_kept t fs h ((day.each u v m l).walked z e), le-to (t u) (pos 0) (c u m)))

  -- as meaning has it, in a list of n times
  pub latest-by : (l : List ℤ) → length l ≡ n → ((e : ℕ) → e < n → times_of l e ≡ latest_by n d e) → Latest n fs l
  unfolding satisfied
  latest-by l size same =
      record {
        size = size;
        keeps = members-satisfied (times_of l) fs (λ b m. subst (λ (z : ℤ). T (le_z z b.c)) (sym (ap₂ ◌-ℤ◌ (same b.x (day.within b m).0) (same b.y (day.within b m).1))) (satisfies-member (latest_by n d) fs b latest-keeps m));
        closing = closing;
        latest = λ t h c e k. subst (λ (z : ℤ). t e ≤ℤ z) (sym (same e k)) (none-later t h c e k);
      }
    where
      closing : (e : ℕ) → times_of l e ≤ℤ pos 0
      closing e = by_cases (dec_lt e n) (λ k. subst (λ (z : ℤ). z ≤ℤ pos 0) (sym (same e k)) (unfold latest_by in soonest-zero n _)) (λ k. subst (λ (z : ℤ). z ≤ℤ pos 0) (sym (get_or-eq_default l (pos 0) (omega arith))) (≤ℤ_refl (pos 0)))

  -- there is one latest timetable, the house's
  pub latest-same : Each (In n) fs → (l : List ℤ) → length l ≡ n → ((e : ℕ) → e < n → times_of l e ≡ latest_by n d e) → l ≡ latest_of n fs
  latest-same inside l size same = latest-one n fs l (latest_of n fs) (latest-by l size same) (latest-is n fs inside day-sound)

-- A new fact fits exactly where the facts with it are sound. If it fits, the lowered table is a day, and a day's facts have a timetable. If a timetable keeps all, it keeps the walk
-- that is the way back, and the fact; the two say that their sum is not below 0.
pub fits-sound : (n : ℕ) (fs : List Alternative) (d : Table) → DayOf n fs d → (a : Alternative) → (a.x < n) × (a.y < n) → fits a d ≡ sound (a ∷ fs)
fits-sound n fs d day a inside =
    same_test (fits a d) (sound (a ∷ fs))
    (λ f. let (t, h) = day-sound n (a ∷ fs) (added a d) (added-day n fs d day a inside f) in sound-decides.whole (a ∷ fs) t h)
    (λ h. let (t, k) = sound-decides.right (a ∷ fs) h in fits_whole n fs d day a inside t k)

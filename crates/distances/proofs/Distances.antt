-- Laws of distances: the shorter of two, and the way over a fact. Assumes nothing.
use mathlib.Core.Path.{◌≡◌, refl, sym, ap}
use mathlib.Core.Bool.{true, false}
use mathlib.Core.Logic.{◌⊎◌, inl, inr}
use lib.IntN.{ℤ, ◌+ℤ◌}
use lib.Signed.{le_z, ◌≤ℤ◌, ≤ℤ_refl}
use Rattle.laws.proofs.Tests.{never}
use Rattle.distances.specs.Distances.{Distance, none, far, AtMost, most}
use Rattle.distances.specs.Adding.{and_then, lesser, shorter, over}
use Rattle.laws.proofs.Integers.{≤ℤ-trans, ≤ℤ-antisym, +ℤ-mono, ≤ℤ-or}

-- ---- the lesser of two numbers
pub lesser-is : (a b : ℤ) → ((a ≤ℤ b) × (lesser a b ≡ a)) ⊎ ((b ≤ℤ a) × (lesser a b ≡ b))
lesser-is a b = go (≤ℤ-or a b)
  where
    go : ((a ≤ℤ b) × (le_z a b ≡ true)) ⊎ ((b ≤ℤ a) × (le_z a b ≡ false)) → ((a ≤ℤ b) × (lesser a b ≡ a)) ⊎ ((b ≤ℤ a) × (lesser a b ≡ b))
    go (inl (h, e)) = inl (h, rw e)
    go (inr (h, e)) = inr (h, rw e)

pub lesser-first : (a b : ℤ) → lesser a b ≤ℤ a
lesser-first a b = go (lesser-is a b)
  where
    go : ((a ≤ℤ b) × (lesser a b ≡ a)) ⊎ ((b ≤ℤ a) × (lesser a b ≡ b)) → lesser a b ≤ℤ a
    go (inl (h, e)) = rw e (≤ℤ_refl a)
    go (inr (h, e)) = rw e h

pub lesser-second : (a b : ℤ) → lesser a b ≤ℤ b
lesser-second a b = go (lesser-is a b)
  where
    go : ((a ≤ℤ b) × (lesser a b ≡ a)) ⊎ ((b ≤ℤ a) × (lesser a b ≡ b)) → lesser a b ≤ℤ b
    go (inl (h, e)) = rw e h
    go (inr (h, e)) = rw e (≤ℤ_refl b)

-- ---- at most
pub at-most-more : {d : Distance} {s r : ℤ} → AtMost d s → s ≤ℤ r → AtMost d r
at-most-more (most h) k = most (≤ℤ-trans h k)

pub far-one : {a b : ℤ} → far a ≡ far b → a ≡ b
far-one e = cc

pub not-far : {z : ℤ} → none ≡ far z → ⊥
not-far e = never (cc)

-- a distance is at most some sum
pub at-most-far : {d : Distance} {s : ℤ} → AtMost d s → (z : ℤ) × (d ≡ far z) × (z ≤ℤ s)
at-most-far (most {z = z} h) = (z, refl, h)

pub far-at-most : {d : Distance} {z s : ℤ} → d ≡ far z → z ≤ℤ s → AtMost d s
far-at-most e h = rw e (most h)

-- ---- the shorter of two
pub shorter-first : (d e : Distance) {s : ℤ} → AtMost d s → AtMost (shorter d e) s
unfolding shorter
shorter-first none e {s = s} x' = elim x' [ ]
shorter-first (far a) none (most h) = most h
shorter-first (far a) (far b) (most h) = most (≤ℤ-trans (lesser-first a b) h)

pub shorter-second : (d e : Distance) {s : ℤ} → AtMost e s → AtMost (shorter d e) s
unfolding shorter
shorter-second none none {s = s} x'' = elim x'' [ ]
shorter-second (far a) none {s = s} x3 = elim x3 [ ]
shorter-second none (far b) (most h) = most h
shorter-second (far a) (far b) (most h) = most (≤ℤ-trans (lesser-second a b) h)

pub shorter-is : (d e : Distance) → (shorter d e ≡ d) ⊎ (shorter d e ≡ e)
unfolding shorter
shorter-is none e = inr refl
shorter-is (far a) none = inl refl
shorter-is (far a) (far b) = go (lesser-is a b)
  where
    go : ((a ≤ℤ b) × (lesser a b ≡ a)) ⊎ ((b ≤ℤ a) × (lesser a b ≡ b)) → (far (lesser a b) ≡ far a) ⊎ (far (lesser a b) ≡ far b)
    go (inl (h, e)) = inl (ap far e)
    go (inr (h, e)) = inr (ap far e)

pub shorter-either : (d e : Distance) {s : ℤ} → AtMost (shorter d e) s → AtMost d s ⊎ AtMost e s
shorter-either d e {s} h = go (shorter-is d e)
  where
    go : (shorter d e ≡ d) ⊎ (shorter d e ≡ e) → AtMost d s ⊎ AtMost e s
    go (inl q) = inl (rw q at h)
    go (inr q) = inr (rw q at h)

-- ---- the way over a fact
pub over-at-most : (d : Distance) (c : ℤ) (e : Distance) {p q : ℤ} → AtMost d p → AtMost e q → AtMost (over d c e) (p +ℤ c +ℤ q)
unfolding and_then
over-at-most none c e {p = p} {q = q} x'' _ = elim x'' [ ]
over-at-most (far a) c none {p = p} {q = q} _ x6 = elim x6 [ ]
over-at-most (far a) c (far b) (most h) (most k) = most (+ℤ-mono (+ℤ-mono h (≤ℤ_refl c)) k)

pub over-far : (d : Distance) (c : ℤ) (e : Distance) {z : ℤ} → over d c e ≡ far z → (p : ℤ) × (q : ℤ) × (d ≡ far p) × (e ≡ far q) × (z ≡ p +ℤ c +ℤ q)
unfolding and_then
over-far none c e h = absurd (not-far h)
over-far (far a) c none h = absurd (not-far h)
over-far (far a) c (far b) h = (a, b, refl, refl, sym (far-one h))

pub over-parts : (d : Distance) (c : ℤ) (e : Distance) {s : ℤ} → AtMost (over d c e) s → (p : ℤ) × (q : ℤ) × (d ≡ far p) × (e ≡ far q) × ((p +ℤ c +ℤ q) ≤ℤ s)
over-parts d c e {s} h =
    let (z, f, k) = at-most-far h in
    let (p, q, a, b, g) = over-far d c e f in
    (p, q, a, b, rw g at k)

-- two distances that are at most the same sums are the same
pub same-distance : (d e : Distance) → ((s : ℤ) → AtMost d s → AtMost e s) → ((s : ℤ) → AtMost e s → AtMost d s) → d ≡ e
same-distance none none f g = refl
same-distance none (far b) f g = absurd (not-far (at-most-far (g b (most (≤ℤ_refl b)))).1)
same-distance (far a) none f g = absurd (not-far (at-most-far (f a (most (≤ℤ_refl a)))).1)
same-distance (far a) (far b) f g = ap far (≤ℤ-antisym (least (g b (most (≤ℤ_refl b)))) (least (f a (most (≤ℤ_refl a)))))
  where
    least : {x y : ℤ} → AtMost (far x) y → x ≤ℤ y
    least (most h) = h

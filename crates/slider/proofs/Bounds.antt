-- The bound that `bound_of` makes of a number's parts is what the use takes of the number. Assumes nothing.
use Rattle.std.proofs.Common.{None, Some}
use mathlib.Core.Path.{◌≡◌, refl, sym, ap, ◌∙◌, subst}
use Prim.Native.Nat.{ℕ, ◌+◌, ◌*◌, ◌/◌, ◌%◌, ◌^◌, ◌≤◌, ◌<◌, min}
use native.Mathlib.Nat.{mul-one, add-zero, min-le_right, min-eq_left}
use native.Mathlib.Omega.{arith}
use mathlib.Core.Bool.{Bool, true, false, not, ◌&&◌}
use lib.Dec.{T, leb, eqb, leb→le, nleb→lt}
use lib.Ieee.{Float, nan, inf, fin, up, down, unlike}
use lib.Ieee.Fits.{down_pos}
use borrow.Author.Tests.{eqb-true, eqb-false, lt-leb}
use Rattle.slider.specs.declared.Split.{Split}
use Rattle.slider.specs.declared.Use.{Use}
use Rattle.slider.specs.declared.Use.TheVariants.{AtMost, AtLeast}
use Rattle.slider.specs.Readings.{signed, pick}
use Rattle.slider.specs.Slider.{Outcome, bound, unread, too_far, floor, taken, bound_limit, kept, fixed_gives}
use Rattle.slider.specs.Steps.{cap, split_of, limited_gives, rounds_up}
use Rattle.slider.proofs.Whole.{abs-signed}
use Rattle.slider.proofs.Floor.{floor-cut, floor-exact}
use Rattle.slider.proofs.Ceiling.{least-floor}

-- ---- a size and a sign
pub far-refused : (s : Bool) (n : ℕ) → bound_limit < n → kept (signed s n) ≡ too_far
far-refused s n h = ap (λ (t : Bool). pick t (bound (signed s n)) too_far) (ap (λ (k : ℕ). leb k bound_limit) (abs-signed s n) ∙ lt-leb n bound_limit h)

-- a size past the cap is refused, so it may stop there; a is what is added for a rest
capped : (s : Bool) (n a : ℕ) → kept (signed s (min n cap + a)) ≡ kept (signed s (n + a))
capped s n a = go (leb n cap) (leb→le n cap) (nleb→lt n cap)
  where
    far : (n a : ℕ) → cap < n → bound_limit < n + a
    far n a h = omega arith

    far-capped : (n a : ℕ) → cap < n → bound_limit < min n cap + a
    far-capped n a h = omega arith

    go : (t : Bool) → (T t → n ≤ cap) → (T (not t) → cap < n) → kept (signed s (min n cap + a)) ≡ kept (signed s (n + a))
    go true h k = ap (λ (m : ℕ). kept (signed s (m + a))) (min-eq_left (h tt))
    go false h k = far-refused s (min n cap + a) (far-capped n a (k tt)) ∙ sym (far-refused s (n + a) (far n a (k tt)))

capped-whole : (s : Bool) (n : ℕ) → kept (signed s (min n cap)) ≡ kept (signed s n)
capped-whole s n = ap (λ (m : ℕ). kept (signed s m)) (sym (add-zero (min n cap))) ∙ capped s n 0 ∙ ap (λ (m : ℕ). kept (signed s m)) (add-zero n)

-- ---- the parts of a number, rounded
capped-gives : (s more : Bool) (n : ℕ) → limited_gives s (min n cap) more ≡ limited_gives s n more
capped-gives s true n = capped s n 1
capped-gives s false n = capped-whole s n

-- t says whether n / D is whole
record IsWhole (n D : ℕ) (t : Bool) : Type 0 where
  pub no-rest : t ≡ true → n % D ≡ 0
  pub a-rest : t ≡ false → n % D ≡ 0 → ⊥

-- The floor of ± n / D: its whole part, and one more where it is negative and not whole.
floor-rounded : (s t : Bool) (n D : ℕ) → 0 < D → IsWhole n D t → floor (signed s n) D ≡ signed s (pick (not t && s) (n / D + 1) (n / D))
floor-rounded false true n D P w = refl
floor-rounded false false n D P w = refl
floor-rounded true true n D P w = floor-exact n D P (w.no-rest refl)
floor-rounded true false n D P w = floor-cut n D P (w.a-rest refl)

-- What a use takes of ± n / D. "At least" takes the floor of ∓ n / D: the other sign, and one more where that sign is negative and there is a rest.
taken-rounded : (u : Use) (s t : Bool) (n D : ℕ) → 0 < D → IsWhole n D t
    → taken u (signed s n) D ≡ signed (unlike s (rounds_up u)) (pick (not t && unlike s (rounds_up u)) (n / D + 1) (n / D))
taken-rounded AtMost true t n D P w = floor-rounded true t n D P w
taken-rounded AtMost false t n D P w = floor-rounded false t n D P w
taken-rounded AtLeast true t n D P w = least-floor true n D ∙ floor-rounded false t n D P w
taken-rounded AtLeast false t n D P w = least-floor false n D ∙ floor-rounded true t n D P w

some-same : {a b : Split} → Some a ≡ Some b → b ≡ a
some-same h = cc

-- what `bound_of` makes of a number's parts
abbrev pub parts_give : Bool → Split → Outcome
parts_give up p = limited_gives (unlike p.neg up) p.whole (p.cut && unlike p.neg up)

-- a number with parts is finite, and its parts give what its use takes of it
pub split-gives : (u : Use) (x : Float) (p : Split) → split_of 0 x ≡ Some p → parts_give (rounds_up u) p ≡ fixed_gives u x
unfolding split_of fixed_gives
split-gives u nan p h = absurd (cc)
split-gives u (inf s) p h = absurd (cc)
split-gives u (fin s m e) p h =
    let n = m * up e in
    let D = down e in
    let t = eqb (n % D) 0 in
    let r = unlike s (rounds_up u) in
    ap (parts_give (rounds_up u)) (some-same h)
    ∙ ap (λ (k : ℕ). limited_gives r (min (k / D) cap) (not (eqb (k % D) 0) && r)) (mul-one n)
    ∙ capped-gives r (not t && r) (n / D)
    ∙ ap kept (sym (taken-rounded u s t n D (down_pos e) (record { no-rest = eqb-true (n % D) 0; a-rest = eqb-false (n % D) 0 })))

pub no-parts-unread : (u : Use) (x : Float) → split_of 0 x ≡ None → fixed_gives u x ≡ unread
unfolding split_of fixed_gives
no-parts-unread u nan h = refl
no-parts-unread u (inf s) h = refl
no-parts-unread u (fin s m e) h = absurd (cc)

pub whole_le : (j : ℕ) (x : Float) (p : Split) → split_of j x ≡ Some p → p.whole ≤ cap
unfolding split_of
whole_le j nan p h = absurd (cc)
whole_le j (inf s) p h = absurd (cc)
whole_le j (fin s m e) p h = subst (λ (q : Split). q.whole ≤ cap) (some-same (sym h)) (min-le_right (m * up e * 2 ^ j / down e) cap)

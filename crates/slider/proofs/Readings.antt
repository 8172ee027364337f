-- From a reading to the number's value, and from a value to the answer. Assumes nothing.
use mathlib.Core.Path.{◌≡◌, refl, sym, ap, ◌∙◌, subst}
use Prim.Native.Nat.{ℕ, ◌+◌, ◌*◌, ◌/◌, ◌%◌, ◌≤◌, ◌<◌}
use native.Mathlib.Nat.{div-add-mod'}
use native.Mathlib.Omega.{arith}
use mathlib.Core.Bool.{Bool, true, false, not, ◌||◌}
use lib.Dec.{T, leb, eqb, leb→le}
use lib.IntN.{ℤ, negsuc, nat_abs}
use lib.Signed.{non_neg}
use lib.Ieee.{Float, nan, inf, fin, up, down}
use lib.Ieee.Fits.{down_pos, and_l, and_r}
use borrow.Author.Tests.{eqb-true}
use Rattle.std.specs.Prelude.{Ok, Err}
use Rattle.slider.specs.declared.Refusal.{Refusal}
use Rattle.slider.specs.declared.Refusal.TheVariants.{Unread}
use Rattle.slider.specs.declared.Use.{Use}
use Rattle.slider.specs.declared.Use.TheVariants.{AtMost, AtLeast}
use Rattle.slider.specs.Readings.{grid, signed, Reading, at, off, pick, reading, allowed, within, position_of}
use Rattle.slider.specs.Slider.{taken, kept, bounded, fixed_gives}
use Rattle.slider.specs.Steps.{is_at, if_at}
use Rattle.slider.proofs.Floor.{floor-same}
use Rattle.slider.proofs.Ceiling.{least-floor}
use Rattle.slider.proofs.Exactly.{Val, own_sign}

-- ---- readings
pub at_of : (r : Reading) → is_at r ≡ true → (z : ℤ) × (r ≡ at z)
at_of (at z) h = (z, refl)
at_of off h = absurd (subst T (sym h) tt)

-- what `on_grid` answers says whether there is a reading
pub at_if : (r : Reading) {u : Unit} → if_at r ≡ Ok u → is_at r ≡ true
at_if (at z) h = refl
at_if off h = absurd (cc)

pub off_if : (r : Reading) {e : Refusal} → if_at r ≡ Err e → (e ≡ Unread) × (is_at r ≡ false)
off_if (at z) h = absurd (cc)
off_if off h = (cc, refl)

-- a number that is read as z has the value z / d
Says : Float → ℕ → Reading → Type 0
Says x d off = Unit
Says x d (at z) = Val x z d

says : (d : ℕ) (x : Float) → Says x d (reading d x)
unfolding reading Says
says d nan = tt
says d (inf s) = tt
says d (fin s m e) = go (eqb (n % down e) 0) (eqb-true (n % down e) 0)
  where
    n : ℕ
    n = m * up e * d

    plain : (q r n : ℕ) → q + r ≡ n → r ≡ 0 → n ≡ q
    plain q r n e z = omega arith

    go : (b : Bool) → (b ≡ true → n % down e ≡ 0) → Says (fin s m e) d (pick b (at (signed s (n / down e))) off)
    go true h = record { sign = s; size = n / down e; value = (refl, plain (n / down e * down e) (n % down e) n (div-add-mod' n (down e)) (h refl)); is = refl }
    go false h = tt

pub read-val : (d : ℕ) (x : Float) (z : ℤ) → reading d x ≡ at z → Val x z d
unfolding Says
read-val d x z h = subst (Says x d) h (says d x)

-- ---- readings within a range
InRange : Bool → ℕ → Reading → Reading → Type 0
InRange both limit r off = Unit
InRange both limit r (at z) = (r ≡ at z) × T (allowed both limit z)

in-range : (both : Bool) (limit : ℕ) (r : Reading) → InRange both limit r (within both limit r)
unfolding within InRange
in-range both limit off = tt
in-range both limit (at z) = go (allowed both limit z) refl
  where
    go : (b : Bool) → allowed both limit z ≡ b → InRange both limit (at z) (pick b (at z) off)
    go true h = (refl, subst T (sym h) tt)
    go false h = tt

pub within-at : (both : Bool) (limit : ℕ) (r : Reading) (z : ℤ) → within both limit r ≡ at z → (r ≡ at z) × T (allowed both limit z)
unfolding InRange
within-at both limit r z h = subst (InRange both limit r) h (in-range both limit r)

pub allowed-le : (both : Bool) (limit : ℕ) (z : ℤ) → T (allowed both limit z) → nat_abs z ≤ limit
allowed-le both limit z t = leb→le (nat_abs z) limit (and_l (leb (nat_abs z) limit) (both || non_neg z) t)

pub allowed-pos : (limit : ℕ) (z : ℤ) → T (allowed false limit z) → T (non_neg z)
allowed-pos limit z t = and_r (leb (nat_abs z) limit) (non_neg z) t

-- a position is not below 0
pub position-not-below : (p : Float) (k : ℕ) → position_of p ≡ at (negsuc k) → ⊥
position-not-below p k e = allowed-pos grid (negsuc k) (within-at false grid (reading grid p) (negsuc k) e).1

-- ---- a value's answer
pub taken-same : (u : Use) (s : Bool) (n D a d : ℕ) → 0 < D → 0 < d → n * d ≡ a * D → taken u (signed s n) D ≡ taken u (signed s a) d
taken-same AtMost s n D a d P Q h = floor-same s n D a d P Q h
taken-same AtLeast s n D a d P Q h = least-floor s n D ∙ floor-same (not s) n D a d P Q h ∙ sym (least-floor s a d)

pub fixed-val : (u : Use) (x : Float) (z : ℤ) (d : ℕ) → 0 < d → Val x z d → fixed_gives u x ≡ bounded u z d
unfolding fixed_gives
fixed-val u nan z d D v = absurd v.value
fixed-val u (inf s) z d D v = absurd v.value
fixed-val u (fin s m e) z d D v =
    ap kept
    (taken-same u s (m * up e) (down e) v.size d (down_pos e) D v.value.1
    ∙ ap (λ (k : ℤ). taken u k d) (sym (own_sign v)))

-- Claim: a number is read as z, in parts of 1 / d, exactly when it is z / d. Assumes nothing.
use mathlib.Core.Path.{◌≡◌, refl, sym, ap, ◌∙◌}
use mathlib.Core.Logic.{◌↔◌}
use Prim.Native.Nat.{ℕ, zero, suc, ◌*◌, ◌/◌, ◌%◌, ◌<◌}
use native.Mathlib.Nat.{mul-mod_left, mul-div_cancel, mul-pos, zero-lt-suc, lt_irrefl}
use mathlib.Core.Bool.{Bool, true, false}
use lib.IntN.{ℤ, pos, negsuc, neg_ℤ, nat_abs, ◌*ℤ◌, pos-ne-negsuc}
use lib.Ieee.{Float, nan, inf, fin, up, down}
use lib.Ieee.Fits.{down_pos}
use borrow.Author.Tests.{eq-eqb}
use Rattle.slider.specs.Readings.{signed, at, off, pick, reading}
use Rattle.slider.proofs.Whole.{abs-signed, abs-mul, signed_by}
use Rattle.slider.proofs.Exactly.{Val, own_sign}
use Rattle.slider.proofs.Readings.{read-val}

-- the number x is z / d, multiplied out; what is not finite is no such number
pub NumberIs : Float → ℤ → ℕ → Type 0
NumberIs nan z d = ⊥
NumberIs (inf s) z d = ⊥
NumberIs (fin s m e) z d = signed s (m * up e) *ℤ pos d ≡ z *ℤ pos (down e)

val-number : (x : Float) (z : ℤ) (d : ℕ) → Val x z d → NumberIs x z d
unfolding NumberIs
val-number nan z d v = v.value
val-number (inf s) z d v = v.value
val-number (fin s m e) z d v =
    signed_by s (m * up e) d
    ∙ ap (signed s) v.value.1
    ∙ sym (signed_by s v.size (down e))
    ∙ ap (λ (y : ℤ). y *ℤ pos (down e)) (sym (own_sign v))

no-own-negative : (x : ℕ) → 0 < x → pos x ≡ neg_ℤ (pos x) → ⊥
no-own-negative zero l e = lt_irrefl 0 l
no-own-negative (suc x) l e = pos-ne-negsuc (suc x) x e

-- a sign and a size that give z times D give z
same_sign : (s : Bool) (z : ℤ) (D : ℕ) → 0 < D → signed s (nat_abs z * D) ≡ z *ℤ pos D → signed s (nat_abs z) ≡ z
same_sign false (pos a) D P h = refl
same_sign false (negsuc a) D P h = absurd (no-own-negative (suc a * D) (mul-pos (zero-lt-suc a) P) h)
same_sign true (pos zero) D P h = refl
same_sign true (pos (suc a)) D P h = absurd (no-own-negative (suc a * D) (mul-pos (zero-lt-suc a) P) (sym h))
same_sign true (negsuc a) D P h = refl

number_read : (x : Float) (z : ℤ) (d : ℕ) → NumberIs x z d → reading d x ≡ at z
unfolding reading NumberIs
number_read nan z d h = absurd h
number_read (inf s) z d h = absurd h
number_read (fin s m e) z d h =
    let D = down e in
    let n = m * up e * d in
    let a = nat_abs z in
    let f : signed s n ≡ z *ℤ pos D = sym (signed_by s (m * up e) d) ∙ h in
    let g : n ≡ a * D = sym (abs-signed s n) ∙ ap nat_abs f ∙ abs-mul z (pos D) in
    ap (λ (t : Bool). pick t (at (signed s (n / D))) off) (eq-eqb (n % D) 0 (ap (λ (k : ℕ). k % D) g ∙ mul-mod_left a D))
    ∙ ap (λ (k : ℕ). at (signed s k)) (ap (λ (k : ℕ). k / D) g ∙ mul-div_cancel a (down_pos e))
    ∙ ap at (same_sign s z D (down_pos e) (ap (signed s) (sym g) ∙ f))

-- A number is read as z exactly when it is z / d.
pub reading-exactly : (d : ℕ) (x : Float) (z : ℤ) → (reading d x ≡ at z) ↔ NumberIs x z d
reading-exactly d x z = (λ h. val-number x z d (read-val d x z h), number_read x z d)

-- `slider::parts` meets its contract: each way out is one range of the bits (`Bits`). Assumes nothing.
use mathlib.Core.Path.{◌≡◌, refl, sym, ap, ◌∙◌, subst}
use mathlib.Core.Bool.{Bool, true, false, not}
use Prim.Native.Nat.{ℕ, ◌+◌, ◌-◌, ◌*◌, ◌/◌, ◌%◌, ◌^◌, ◌≤◌, ◌<◌}
use native.Mathlib.Omega.{arith}
use lib.Dec.{T, leb, eqb, leb→le, nleb→lt}
use lib.Pow.{pow_pos}
use lib.Ieee.{Float, nan, inf, fin, binary32, fits, to_bits}
use Rattle.std.specs.Float.{float_is_finite}
use Rattle.std.specs.Prelude.{Option, None}
use Rattle.slider.proofs.Bits.{negative, below-sign, field, digits, lead, first-infinite, not_finite, low-range, mid-range, high-range, one_shifted}
use Rattle.slider.specs.declared.Split.{Split}
use Rattle.slider.specs.Steps.{finite_split, split_of}
use Rattle.slider.proofs.parts.Goals as goal

-- the shift that makes the unit
shift_le : (e : ℕ) → 127 ≤ e → 150 - e ≤ 23
shift_le e h = omega arith

unit-is : (e : ℕ) → 127 ≤ e → (1 * 2 ^ (150 - e)) % 4294967296 ≡ 2 ^ (150 - e)
unit-is e h = one_shifted (150 - e) (shift_le e h)

unit-pos : (e : ℕ) → 127 ≤ e → 0 < (1 * 2 ^ (150 - e)) % 4294967296
unit-pos e h = subst (λ (u : ℕ). 0 < u) (sym (unit-is e h)) (pow_pos (150 - e))

-- the code takes the digits from what is below the sign
same_digits : (b : ℕ) → digits b ≡ b % 2147483648 % 8388608
same_digits b = omega arith

-- what is not finite has no parts, and what is has a field below the last
no-parts : (j : ℕ) (x : Float) → float_is_finite x ≡ false → split_of j x ≡ None
unfolding float_is_finite split_of
no-parts j nan h = refl
no-parts j (inf s) h = refl
no-parts j (fin s m e) h = absurd (cc)

has-parts : (j : ℕ) (x : Float) → float_is_finite x ≡ true → split_of j x ≡ None → ⊥
unfolding float_is_finite split_of
has-parts j nan h n = cc
has-parts j (inf s) h n = cc
has-parts j (fin s m e) h n = cc

finite-bits : (x : Float) → T (fits binary32 x) → float_is_finite x ≡ true → below-sign (to_bits binary32 x) < first-infinite
finite-bits x held h = go (leb first-infinite below) (leb→le first-infinite below) (nleb→lt first-infinite below)
  where
    below : ℕ
    below = below-sign (to_bits binary32 x)

    go : (t : Bool) → (T t → first-infinite ≤ below) → (T (not t) → below < first-infinite) → below < first-infinite
    go true l g = absurd (has-parts 0 x h (not_finite x 0 held (l tt)))
    go false l g = g tt

-- an argument is a number of its type
held : (x : Float) → fits binary32 x ≡ true → T (fits binary32 x)
held x e = subst T (sym e) tt

pub returns-then-not-is_finite : goal.returns-then-not-is_finite
returns-then-not-is_finite c = sym (no-parts c.args.j c.args.x (sym c.is_finite.ensures.value ∙ c.if-not-is_finite.true))

pub returns-then-e-lt127 : goal.returns-then-e-lt127
returns-then-e-lt127 c =
    let h = held _ c.well_formed.0.1 in
    let finite = finite-bits c.args.x h (sym c.is_finite.ensures.value ∙ c.if-not-is_finite.false) in
    sym (low-range c.args.x c.args.j h finite c.if-e-lt127.true)

pub returns-then-e-ge150 : goal.returns-then-e-ge150
returns-then-e-ge150 c =
    let h = held _ c.well_formed.0.1 in
    let finite = finite-bits c.args.x h (sym c.is_finite.ensures.value ∙ c.if-not-is_finite.false) in
    sym (high-range c.args.x c.args.j h finite c.requires c.if-e-ge150.true)

pub returns : goal.returns
returns c =
    let b = to_bits binary32 c.args.x in
    let e = field b + c.args.j in
    let h = held _ c.well_formed.0.1 in
    let finite = finite-bits c.args.x h (sym c.is_finite.ensures.value ∙ c.if-not-is_finite.false) in
    let made : ℕ → ℕ → Option Split = λ d u. finite_split (negative b) ((lead + d) / u) (not (eqb ((lead + d) % u) 0)) in
    sym (mid-range c.args.x c.args.j h finite c.requires c.if-e-lt127.false c.if-e-ge150.false
    ∙ ap (λ (d : ℕ). made d (2 ^ (150 - e))) (same_digits b)
    ∙ ap (made (b % 2147483648 % 8388608)) (sym (unit-is e c.if-e-lt127.false)))

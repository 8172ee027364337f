-- The tests that `on_grid` makes on the parts of a number decide whether it is read on its grid and in its range. Assumes nothing.
use Rattle.std.specs.Prelude.{None, Some, Result, Ok, Err}
use mathlib.Core.Path.{◌≡◌, refl, sym, ap, ◌∙◌}
use Prim.Native.Nat.{ℕ, zero, suc, ◌*◌, ◌/◌, ◌%◌, ◌^◌, ◌≤◌, ◌<◌, min}
use native.Mathlib.Omega.{arith}
use mathlib.Core.Bool.{Bool, true, false, not, ◌&&◌, ◌||◌}
use lib.Dec.{T, leb, ltb, eqb, leb→le, nleb→lt, eqb-suc-zero}
use lib.IntN.{ℤ, nat_abs}
use lib.Signed.{non_neg}
use lib.Ieee.{Float, nan, inf, fin, up, down}
use borrow.Author.Tests.{le-leb, lt-leb, lt-ltb, le-ltb}
use Rattle.slider.specs.declared.Refusal.{Refusal}
use Rattle.slider.specs.declared.Refusal.TheVariants.{Unread}
use Rattle.slider.specs.declared.Split.{Split}
use Rattle.slider.specs.Readings.{signed, at, off, pick, reading, allowed, within}
use Rattle.slider.specs.Steps.{cap, split_of, if_at}
use Rattle.slider.proofs.Whole.{abs-signed}

-- the tests of `on_grid`: past the limit, or below 0 where it may not be
abbrev pub is_below : Bool → Split → Bool
is_below both p = (not both && p.neg) && not (eqb p.whole 0)

abbrev past_range : Bool → ℕ → Split → Bool
past_range both limit p = ltb limit p.whole || is_below both p

abbrev pub is_off : Bool → ℕ → Split → Bool
is_off both limit p = p.cut || past_range both limit p

abbrev pub refused_if : Bool → Result Unit Refusal
refused_if true = Err Unread
refused_if false = Ok tt

-- the range is tested on a size that stops at the cap, which lies above the limit
range-test : (both : Bool) (limit : ℕ) (s cut : Bool) (n : ℕ) → limit < cap
    → not (past_range both limit (record { neg = s; whole = min n cap; cut = cut })) ≡ allowed both limit (signed s n)
range-test both limit s cut n L = go (leb n limit) (leb→le n limit) (nleb→lt n limit)
  where
    plain : (n : ℕ) → n ≤ limit → min n cap ≡ n
    plain n h = omega arith

    above : (n : ℕ) → limit < n → limit < min n cap
    above n h = omega arith

    below_is : Bool → Bool → ℕ → Bool
    below_is both s n = (not both && s) && not (eqb n 0)

    rest : (both s : Bool) (n : ℕ) → not (below_is both s n) ≡ (both || non_neg (signed s n))
    rest true s n = refl
    rest false false n = refl
    rest false true zero = refl
    rest false true (suc n) = ap (λ (t : Bool). not (not t)) (eqb-suc-zero n)

    goal : Bool → ℕ → Bool
    goal t m = not (t || below_is both s m)

    size_is : (t : Bool) → leb n limit ≡ t → leb (nat_abs (signed s n)) limit ≡ t
    size_is t e = ap (λ (k : ℕ). leb k limit) (abs-signed s n) ∙ e

    go : (t : Bool) → (T t → n ≤ limit) → (T (not t) → limit < n) → goal (ltb limit (min n cap)) (min n cap) ≡ allowed both limit (signed s n)
    go true h k =
        ap (λ (m : ℕ). goal (ltb limit m) m) (plain n (h tt))
        ∙ ap (λ (t : Bool). goal t n) (le-ltb limit n (h tt))
        ∙ rest both s n
        ∙ sym (ap (λ (t : Bool). t && (both || non_neg (signed s n))) (size_is true (le-leb n limit (h tt))))
    go false h k =
        ap (λ (t : Bool). goal t (min n cap)) (lt-ltb limit (min n cap) (above n (k tt)))
        ∙ sym (ap (λ (t : Bool). t && (both || non_neg (signed s n))) (size_is false (lt-leb n limit (k tt))))

-- a number with parts is read unless something was cut off or it is out of its range
pub grid-split : (both : Bool) (limit j : ℕ) (x : Float) (p : Split) → limit < cap → split_of j x ≡ Some p
    → if_at (within both limit (reading (2 ^ j) x)) ≡ refused_if (is_off both limit p)
unfolding split_of within reading
grid-split both limit j nan p L h = absurd (cc)
grid-split both limit j (inf s) p L h = absurd (cc)
grid-split both limit j (fin s m e) p L h = go (eqb (m * up e * 2 ^ j % down e) 0) ∙ ap (λ (q : Split). refused_if (is_off both limit q)) (some-same h)
  where
    some-same : {a b : Split} → Some a ≡ Some b → a ≡ b
    some-same h = cc

    n : ℕ
    n = m * up e * 2 ^ j

    at_test : (t : Bool) (z : ℤ) → if_at (pick t (at z) off) ≡ refused_if (not t)
    at_test true z = refl
    at_test false z = refl

    twice : (t : Bool) → not (not t) ≡ t
    twice true = refl
    twice false = refl

    go : (t : Bool) → if_at (within both limit (pick t (at (signed s (n / down e))) off)) ≡ refused_if (is_off both limit (record { neg = s; whole = min (n / down e) cap; cut = not t }))
    go true =
        at_test (allowed both limit (signed s (n / down e))) (signed s (n / down e))
        ∙ ap (λ (t : Bool). refused_if (not t)) (sym (range-test both limit s false (n / down e) L))
        ∙ ap refused_if (twice (past_range both limit (record { neg = s; whole = min (n / down e) cap; cut = false })))
    go false = refl

-- a number with no parts is not read
pub no-parts : (both : Bool) (limit j : ℕ) (x : Float) → split_of j x ≡ None → if_at (within both limit (reading (2 ^ j) x)) ≡ Err Unread
unfolding split_of within reading
no-parts both limit j nan h = refl
no-parts both limit j (inf s) h = refl
no-parts both limit j (fin s m e) h = absurd (cc)

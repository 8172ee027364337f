-- A number in decimal: the digits of the library are those of `Written`, and what is written reads back. Assumes nothing.
use Prim.Native.Nat.{ℕ, zero, suc, ◌+◌, ◌*◌, ◌-◌, ◌/◌, ◌%◌, ◌^◌, ◌≤◌, ◌<◌}
use mathlib.Core.Path.{◌≡◌, refl, sym, ap, ◌∙◌}
use mathlib.Core.Bool.{Bool, cond, true, false, ◌&&◌}
use mathlib.Core.List.{List, [], ◌∷◌, ◌++◌}
use Rattle.std.specs.Prelude.{Some}
use Rattle.std.specs.Cmp.Lexicographic.{pointwise}
use lib.ListN.{length, take, length-append}
use lib.IntN.{ℤ, pos, negsuc}
use lib.Signed.{mag}
use native.Mathlib.Nat.{div-add-mod', pow-suc, pow-zero, div-lt_iff_lt-mul, le-div_iff_mul-le, mod-eq_of_lt, mod-lt, pow-le-pow_right}
use native.Mathlib.Omega.{arith}
use lib.Dec.{ltb, leb, eqb}
use borrow.Author.Tests.{ne_eqb, lt-ltb, le-ltb, le-leb, leb-true, leb-false, ltb-true, ltb-false}
use Rattle.io.specs.Digits.{hex_digit_ascii, last_digits as digits, IsDigitCount}
use Rattle.dialogue.specs.Written.{decimal_in, decimal, signed_decimal}
use Rattle.dialogue.specs.Words.{are_digits, value_from, digits_from, unsigned_of, signed_of, negative}
use Rattle.dialogue.proofs.Spelling.{unsigned-some, signed-plain}

glyph-low : (n : ℕ) → hex_digit_ascii (n % 10) ≡ 48 + n % 10
glyph-low n = rw (lt-ltb (n % 10) 10 (mod-lt n (omega arith)))

-- as many places as the number takes, and no more than there are
pub digits_decimal : (places k n : ℕ) → k ≤ places → IsDigitCount 10 1 n k → digits 10 k n ≡ decimal_in places n
unfolding decimal_in
digits_decimal zero k n l f = absurd (omega arith)
digits_decimal (suc places) zero n l f = absurd (omega arith)
digits_decimal (suc places) (suc zero) n l f =
    let h : n < 10 = omega (arith, pow-suc 10 0, pow-zero 10, f.1) in
    rw (lt-ltb n 10 h, glyph-low n, mod-eq_of_lt h)
digits_decimal (suc places) (suc (suc k)) n l f =
    let one : suc (suc k) - 1 ≡ suc k = omega arith in
    let low : 10 ^ suc k ≤ n = rw one at (f.2 (omega arith)) in
    let big : 10 ≤ n = omega (arith, low, pow-le-pow_right {n = 10} (omega arith) {i = 1} {j = suc k} (omega arith)) in
    let fewer : IsDigitCount 10 1 (n / 10) (suc k) = (omega arith, (div-lt_iff_lt-mul {k = 10} (omega arith)).1 (rw pow-suc at f.1), λ h. (le-div_iff_mul-le {k = 10} (omega arith)).1 (down k low)) in
    rw (le-ltb n 10 big, glyph-low n, digits_decimal places (suc k) (n / 10) (omega arith) fewer)
  where
    down : (k : ℕ) → 10 ^ suc k ≤ n → 10 ^ (suc k - 1) * 10 ≤ n
    down k h = let one : suc k - 1 ≡ k = omega arith in rw one (rw pow-suc at h)

-- a 64-bit number takes at most 20 places
pub places-fit : (n k : ℕ) → n < 2 ^ 64 → IsDigitCount 10 1 n k → k ≤ 20
places-fit n k h f = by (leb k 20) refl
  where
    by : (t : Bool) → leb k 20 ≡ t → k ≤ 20
    by true e = leb-true k 20 e
    by false e =
        let g = leb-false k 20 e in
        absurd (omega (arith, f.2 (omega arith), pow-le-pow_right {n = 10} (omega arith) {i = 20} {j = k - 1} (omega arith)))

-- a number below 10^(k + 1) takes at most k + 1 places
pub short-decimal : (places k n : ℕ) → n < 10 ^ suc k → length (decimal_in places n) ≤ suc k
unfolding decimal_in
short-decimal zero k n h = omega arith
short-decimal (suc places) k n h = by (ltb n 10) refl (λ j e l. short-decimal places j (n / 10) l)
  where
    fewer : (j : ℕ) → n < 10 ^ suc (suc j) → n / 10 < 10 ^ suc j
    fewer j l = (div-lt_iff_lt-mul {k = 10} (omega arith)).1 (rw pow-suc at l)

    last : (k : ℕ) → n < 10 ^ suc k → 10 ≤ n → ((j : ℕ) → k ≡ suc j → n / 10 < 10 ^ suc j → length (decimal_in places (n / 10)) ≤ suc j) → length (decimal_in places (n / 10) ++ ((48 + n % 10) ∷ [])) ≤ suc k
    last zero l g f = absurd (omega (arith, pow-suc 10 0, pow-zero 10))
    last (suc j) l g f = omega (arith, f j refl (fewer j l), length-append (decimal_in places (n / 10)) ((48 + n % 10) ∷ []))

    by : (t : Bool) → ltb n 10 ≡ t → ((j : ℕ) → k ≡ suc j → n / 10 < 10 ^ suc j → length (decimal_in places (n / 10)) ≤ suc j) → length (cond t ((48 + n) ∷ []) (decimal_in places (n / 10) ++ ((48 + n % 10) ∷ []))) ≤ suc k
    by true e f = omega arith
    by false e f = last k h (ltb-false n 10 e) f

-- ---- what is written reads back

value-last : (v : ℕ) (w : List ℕ) (d : ℕ) → value_from v (w ++ (d ∷ [])) ≡ value_from v w * 10 + (d - 48)
unfolding value_from
value-last v [] d = refl
value-last v (b ∷ w) d = value-last (v * 10 + (b - 48)) w d

digits_last : (w : List ℕ) (d : ℕ) → are_digits w ≡ true → 48 ≤ d → d ≤ 57 → are_digits (w ++ (d ∷ [])) ≡ true
unfolding are_digits
digits_last [] d e l h = rw (le-leb 48 d l, le-leb d 57 h)
digits_last (b ∷ w) d e l h = both (leb 48 b) (leb b 57) (are_digits w) (are_digits (w ++ (d ∷ []))) e (λ f. digits_last w d f l h)
  where
    both : (x y a c : Bool) → (x && (y && a)) ≡ true → (a ≡ true → c ≡ true) → (x && (y && c)) ≡ true
    both true true a c e f = f e
    both true false a c e f = e
    both false y a c e f = e

-- the decimal of a number is a row of digits, at least one, of that value
record Spells (w : List ℕ) (n : ℕ) : Type 0 where
  some-digit : 0 < length w
  all_digits : are_digits w ≡ true
  the_value : value_from 0 w ≡ n

spells_one : (n : ℕ) → n < 10 → Spells ((48 + n) ∷ []) n
unfolding are_digits value_from
spells_one n h = record { some-digit = omega arith; all_digits = rw (le-leb 48 (48 + n) (omega arith), le-leb (48 + n) 57 (omega arith)); the_value = omega arith }

spells-more : (w : List ℕ) (n : ℕ) → Spells w (n / 10) → Spells (w ++ ((48 + n % 10) ∷ [])) n
spells-more w n s =
    let d : n % 10 < 10 = mod-lt n (omega arith) in
    record { some-digit = omega (arith, length-append w ((48 + n % 10) ∷ [])); all_digits = digits_last w (48 + n % 10) s.all_digits (omega arith) (omega arith); the_value = value-last 0 w (48 + n % 10) ∙ omega (arith, s.the_value, div-add-mod' n 10) }

spells : (places n : ℕ) → n < 10 ^ places → 0 < places → Spells (decimal_in places n) n
unfolding decimal_in
spells zero n h z = absurd (omega arith)
spells (suc places) n h z = by (ltb n 10) refl (λ g. spells places (n / 10) ((div-lt_iff_lt-mul {k = 10} (omega arith)).1 (rw pow-suc at h)) g)
  where
    by : (t : Bool) → ltb n 10 ≡ t → (0 < places → Spells (decimal_in places (n / 10)) (n / 10)) → Spells (cond t ((48 + n) ∷ []) (decimal_in places (n / 10) ++ ((48 + n % 10) ∷ []))) n
    by true e f = spells_one n (ltb-true n 10 e)
    by false e f = spells-more (decimal_in places (n / 10)) n (f (more places h (ltb-false n 10 e)))
      where
        more : (p : ℕ) → n < 10 ^ suc p → 10 ≤ n → 0 < p
        more zero h g = absurd (omega (arith, pow-suc 10 0, pow-zero 10))
        more (suc p) h g = omega arith

pub decimal-digits : (n : ℕ) → n < 10 ^ 20 → are_digits (decimal n) ≡ true
decimal-digits n h = (spells 20 n h (omega arith)).all_digits

-- no number but 0 is written with a leading zero
pub record Leading (w : List ℕ) : Type 0 where
  pub first : ℕ
  pub rest : List ℕ
  pub is : w ≡ first ∷ rest
  pub low : 49 ≤ first
  pub high : first ≤ 57
  pub digits : are_digits rest ≡ true

leading-more : (w : List ℕ) (d : ℕ) → Leading w → 48 ≤ d → d ≤ 57 → Leading (w ++ (d ∷ []))
leading-more w d l m h = record { first = l.first; rest = l.rest ++ (d ∷ []); is = rw l.is; low = l.low; high = l.high; digits = digits_last l.rest d l.digits m h }

leads : (places n : ℕ) → 0 < n → n < 10 ^ places → Leading (decimal_in places n)
unfolding decimal_in are_digits
leads zero n z h = absurd (omega (arith, pow-zero 10))
leads (suc places) n z h = by (ltb n 10) refl (λ g. leads places (n / 10) g ((div-lt_iff_lt-mul {k = 10} (omega arith)).1 (rw pow-suc at h)))
  where
    by : (t : Bool) → ltb n 10 ≡ t → (0 < n / 10 → Leading (decimal_in places (n / 10))) → Leading (cond t ((48 + n) ∷ []) (decimal_in places (n / 10) ++ ((48 + n % 10) ∷ [])))
    by true e f = let low : n < 10 = ltb-true n 10 e in record { first = 48 + n; rest = []; is = refl; low = omega arith; high = omega arith; digits = refl }
    by false e f =
        let high : 10 ≤ n = ltb-false n 10 e in
        let d : n % 10 < 10 = mod-lt n (omega arith) in
        leading-more (decimal_in places (n / 10)) (48 + n % 10) (f (omega (arith, div-add-mod' n 10))) (omega arith) (omega arith)

pub decimal-leads : (n : ℕ) → 0 < n → n < 10 ^ 20 → Leading (decimal n)
decimal-leads n z h = leads 20 n z h

spelled : (most n : ℕ) (w : List ℕ) → n ≤ most → Spells w n → digits_from most 0 w ≡ Some n
unfolding digits_from
spelled most n w l s = rw (s.all_digits, s.the_value, le-leb n most l)

-- a number that is written in decimal reads back
pub reads-back : (most n : ℕ) → n ≤ most → n < 10 ^ 20 → unsigned_of most (decimal n) ≡ Some n
reads-back most n l h = let s = spells 20 n h (omega arith) in unsigned-some most (decimal n) s.some-digit ∙ spelled most n (decimal n) l s

-- no row of digits begins with a -
no_minus : (n : ℕ) (w : List ℕ) → Spells w n → pointwise eqb (take 1 w) (45 ∷ []) ≡ false
unfolding are_digits
no_minus n [] s = refl
no_minus n (b ∷ w) s = rw (ne_eqb b 45 (λ e. omega (arith, low (leb 48 b) (leb b 57 && are_digits w) (λ t. leb-true 48 b t) s.all_digits)))
  where
    low : (x y : Bool) → (x ≡ true → 48 ≤ b) → (x && y) ≡ true → 48 ≤ b
    low true y f e = f refl
    low false y f e = let z : ◌≡◌ {A = ℕ} 0 1 = cc in omega arith

pub signed-reads-back : (z : ℤ) → mag z < 2 ^ 31 → signed_of (signed_decimal z) ≡ Some z
unfolding signed_of
signed-reads-back (pos n) h =
    let s = spells 20 n (omega arith) (omega arith) in
    signed-plain (decimal n) (Some n) (no_minus n (decimal n) s) (sym (reads-back 0x7fffffff n (omega arith) (omega arith)))
signed-reads-back (negsuc n) h = ap negative (reads-back 0x80000000 (suc n) (omega arith) (omega arith))

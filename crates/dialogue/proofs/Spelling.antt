-- Laws of the definitions of `Words`: one byte more of a search, of a word and of a number. Assumes nothing.
use Prim.Native.Nat.{ℕ, ◌+◌, ◌*◌, ◌-◌, ◌≤◌, ◌<◌}
use mathlib.Core.Path.{◌≡◌, refl, sym, ap, ◌∙◌}
use mathlib.Core.Bool.{Bool, true, false, ◌&&◌, cond}
use mathlib.Core.List.{List, [], ◌∷◌}
use mathlib.Core.Logic.{◌⊎◌, inl, inr}
use Rattle.std.specs.Prelude.{Option, None, Some}
use Rattle.std.specs.Cmp.Lexicographic.{pointwise}
use native.Mathlib.Numerals.{add-one}
use native.Mathlib.Omega.{arith}
use lib.ListN.{length, get_or, take, drop, length-take, length-drop, drop_of_length-le}
use lib.Seq.{drop-cons}
use lib.Dec.{leb, eqb}
use borrow.Author.Tests.{le-leb, lt-leb, eq-eqb, ne_eqb, leb-true}
use Rattle.dialogue.specs.Words.{before, place_of, word_at, are_digits, value_from, digits_from, unsigned_of, signed_of, positive, negative}

module _ (stop : ℕ) (s : List ℕ) (i : ℕ) where
  pub place_end : length s ≤ i → place_of stop s i ≡ i
  unfolding before
  place_end h = rw (drop_of_length-le s h) (omega arith)

-- digits only add to a value
value-ge : (v : ℕ) (w : List ℕ) → v ≤ value_from v w
unfolding value_from
value-ge v [] = omega arith
value-ge v (b ∷ w) = let h : v * 10 + (b - 48) ≤ value_from (v * 10 + (b - 48)) w = value-ge (v * 10 + (b - 48)) w in omega arith

pub number-end : (most v : ℕ) → v ≤ most → digits_from most v [] ≡ Some v
unfolding digits_from are_digits value_from
number-end most v h = rw (le-leb v most h)

-- a value that is too large already stays so
number-large : (most v : ℕ) (w : List ℕ) → most < v → digits_from most v w ≡ None
unfolding digits_from
number-large most v w h = let g : v ≤ value_from v w = value-ge v w in rw (lt-leb (value_from v w) most (omega arith)) (off (are_digits w) (Some (value_from v w)))
  where
    off : (a : Bool) (o : Option ℕ) → cond (a && false) o None ≡ None
    off true o = refl
    off false o = refl

-- the digits from a place on, by the byte that stands there
module _ (most v : ℕ) (w : List ℕ) (i : ℕ) (h : i < length w) where
  pub number-apart : (get_or w i 0 < 48) ⊎ (57 < get_or w i 0) → digits_from most v (drop i w) ≡ None
  unfolding digits_from are_digits
  number-apart (inl l) = rw (drop-cons w i 0 h, lt-leb 48 (get_or w i 0) l)
  number-apart (inr l) = rw (drop-cons w i 0 h, le-leb 48 (get_or w i 0) (omega arith), lt-leb (get_or w i 0) 57 l)

  pub number_more : (48 ≤ get_or w i 0) × (get_or w i 0 ≤ 57) → digits_from most v (drop i w) ≡ digits_from most (v * 10 + (get_or w i 0 - 48)) (drop (i + 1) w)
  unfolding digits_from are_digits value_from
  number_more d = rw (drop-cons w i 0 h, add-one i, le-leb 48 (get_or w i 0) d.0, le-leb (get_or w i 0) 57 d.1)

  pub number-over : (48 ≤ get_or w i 0) × (get_or w i 0 ≤ 57) → most < v * 10 + (get_or w i 0 - 48) → digits_from most v (drop i w) ≡ None
  number-over d g = number_more d ∙ number-large most (v * 10 + (get_or w i 0 - 48)) (drop (i + 1) w) g

pub unsigned-none : (most : ℕ) (w : List ℕ) → length w ≡ 0 → unsigned_of most w ≡ None
unfolding unsigned_of
unsigned-none most [] h = refl
unsigned-none most (b ∷ w) h = absurd (omega arith)

pub unsigned-some : (most : ℕ) (w : List ℕ) → 0 < length w → unsigned_of most w ≡ digits_from most 0 w
unfolding unsigned_of
unsigned-some most [] h = absurd (omega arith)
unsigned-some most (b ∷ w) h = refl

-- what a number is at most, and that its word is not empty
digits-most : (most v n : ℕ) (w : List ℕ) → digits_from most v w ≡ Some n → n ≤ most
unfolding digits_from
digits-most most v n w e = chosen (are_digits w) (leb (value_from v w) most) (value_from v w) (λ t. leb-true (value_from v w) most t) e
  where
    chosen : (a b : Bool) (x : ℕ) → (b ≡ true → x ≤ most) → cond (a && b) (Some x) None ≡ Some n → n ≤ most
    chosen true true x h e = let p : x ≡ n = cc in let q : x ≤ most = h refl in omega arith
    chosen true false x h e = let p : ◌≡◌ {A = ℕ} 0 1 = cc in omega arith
    chosen false b x h e = let p : ◌≡◌ {A = ℕ} 0 1 = cc in omega arith

pub unsigned-most : (most n : ℕ) (w : List ℕ) → unsigned_of most w ≡ Some n → n ≤ most
unfolding unsigned_of
unsigned-most most n [] e = let p : ◌≡◌ {A = ℕ} 0 1 = cc in omega arith
unsigned-most most n (b ∷ w) e = digits-most most 0 n (b ∷ w) e

-- what was read is at most the limit
pub most-read : (most : ℕ) (w : List ℕ) {v : ℕ} → Some v ≡ unsigned_of most w → v ≤ most
most-read most w {v} e = unsigned-most most v w (sym e)

-- a number among fewer is read as among more, and then compared
module _ (most all n : ℕ) (w : List ℕ) (below : most ≤ all) where
  pub narrower_none : unsigned_of all w ≡ None → unsigned_of most w ≡ None
  unfolding unsigned_of digits_from
  narrower_none e = on w e
    where
      by : (d a m : Bool) (x : ℕ) → (m ≡ true → a ≡ true) → cond (d && a) (Some x) None ≡ None → cond (d && m) (Some x) None ≡ None
      by true a false x f e = refl
      by true true true x f e = cc
      by true false true x f e = let z = f refl in cc
      by false a m x f e = refl

      on : (l : List ℕ) → unsigned_of all l ≡ None → unsigned_of most l ≡ None
      on [] e = refl
      on (b ∷ l) e = by (are_digits (b ∷ l)) (leb (value_from 0 (b ∷ l)) all) (leb (value_from 0 (b ∷ l)) most) (value_from 0 (b ∷ l)) (λ t. le-leb _ _ (omega (arith, leb-true _ _ t))) e

  pub narrower : unsigned_of all w ≡ Some n → n ≤ most → unsigned_of most w ≡ Some n
  unfolding unsigned_of digits_from
  narrower e h = on w e
    where
      by : (d a m : Bool) (x : ℕ) → (x ≡ n → m ≡ true) → cond (d && a) (Some x) None ≡ Some n → cond (d && m) (Some x) None ≡ Some n
      by true true m x f e = rw (f cc) e
      by true false m x f e = cc
      by false a m x f e = cc

      on : (l : List ℕ) → unsigned_of all l ≡ Some n → unsigned_of most l ≡ Some n
      on [] e = cc
      on (b ∷ l) e = by (are_digits (b ∷ l)) (leb (value_from 0 (b ∷ l)) all) (leb (value_from 0 (b ∷ l)) most) (value_from 0 (b ∷ l)) (λ i. le-leb _ _ (omega arith)) e

  pub narrower-over : unsigned_of all w ≡ Some n → most < n → unsigned_of most w ≡ None
  unfolding unsigned_of digits_from
  narrower-over e h = on w e
    where
      by : (d a m : Bool) (x : ℕ) → (x ≡ n → m ≡ false) → cond (d && a) (Some x) None ≡ Some n → cond (d && m) (Some x) None ≡ None
      by true true m x f e = rw (f cc)
      by true false m x f e = cc
      by false a m x f e = refl

      on : (l : List ℕ) → unsigned_of all l ≡ Some n → unsigned_of most l ≡ None
      on [] e = cc
      on (b ∷ l) e = by (are_digits (b ∷ l)) (leb (value_from 0 (b ∷ l)) all) (leb (value_from 0 (b ∷ l)) most) (value_from 0 (b ∷ l)) (λ i. lt-leb _ _ (omega arith)) e

-- a signed number, by its first byte: the rest of its word is an unsigned one, or the whole word
pub signed-minus : (w d : List ℕ) (o : Option ℕ) → pointwise eqb (take 1 w) (45 ∷ []) ≡ true → d ≡ drop 1 w → o ≡ unsigned_of 0x80000000 d → signed_of w ≡ negative o
unfolding signed_of
signed-minus [] d o e p q = cc
signed-minus (b ∷ w) d o e p q = led (eqb b 45) e
  where
    led : (t : Bool) → (t && true) ≡ true → cond t (negative (unsigned_of 0x80000000 w)) (positive (unsigned_of 0x7fffffff (b ∷ w))) ≡ negative o
    led true e = rw (q, p)
    led false e = cc

pub signed-plain : (w : List ℕ) (o : Option ℕ) → pointwise eqb (take 1 w) (45 ∷ []) ≡ false → o ≡ unsigned_of 0x7fffffff w → signed_of w ≡ positive o
unfolding signed_of unsigned_of
signed-plain [] o e q = rw q
signed-plain (b ∷ w) o e q = led (eqb b 45) e
  where
    led : (t : Bool) → (t && true) ≡ false → cond t (negative (unsigned_of 0x80000000 w)) (positive (unsigned_of 0x7fffffff (b ∷ w))) ≡ positive o
    led true e = cc
    led false e = rw q

-- the bytes before a stop are the first ones
before-take : (stop : ℕ) (l : List ℕ) → take (length (before stop l)) l ≡ before stop l
unfolding before
before-take stop [] = refl
before-take stop (b ∷ l) = here (eqb b stop) (before-take stop l)
  where
    here : (t : Bool) → take (length (before stop l)) l ≡ before stop l → take (length (cond t [] (b ∷ before stop l))) (b ∷ l) ≡ cond t [] (b ∷ before stop l)
    here true e = refl
    here false e = ap (λ (r : List ℕ). b ∷ r) e

pub before-length : (stop : ℕ) (l : List ℕ) → length (before stop l) ≤ length l
before-length stop l = omega (arith, ap length (before-take stop l), length-take (length (before stop l)) l)

module _ (s : List ℕ) (at : ℕ) where
  pub word-led : (to : ℕ) → get_or s at 0 ≡ 32 → to ≡ place_of 32 s (at + 1) → take (to - (at + 1)) (drop (at + 1) s) ≡ word_at s at
  unfolding word_at
  word-led to e p =
      let d : to - (at + 1) ≡ length (before 32 (drop (at + 1) s)) = omega arith in
      rw (eq-eqb (get_or s at 0) 32 e, d) (before-take 32 (drop (at + 1) s))

  pub word_none : (get_or s at 0 ≡ 32 → ⊥) → [] ≡ word_at s at
  unfolding word_at
  word_none d = rw (ne_eqb (get_or s at 0) 32 d)

  -- a word ends within its line
  pub word_fits : (w : List ℕ) → w ≡ word_at s at → 0 < length w → at + 1 + length w ≤ length s
  unfolding word_at
  word_fits w e h = rw e (within (eqb (get_or s at 0) 32) (rw e at h))
    where
      within : (t : Bool) → 0 < length (cond t (before 32 (drop (at + 1) s)) []) → at + 1 + length (cond t (before 32 (drop (at + 1) s)) []) ≤ length s
      within true h = omega (arith, before-length 32 (drop (at + 1) s), length-drop (at + 1) s)
      within false h = absurd (omega arith)

  -- so does one that spells anything, where a word of no bytes spells nothing
  pub word_ends : {A : Type 0} (read : List ℕ → Option A) → read [] ≡ None → (w : List ℕ) (v : A) → w ≡ word_at s at → Some v ≡ read w → at + 1 + length w ≤ length s
  word_ends read empty [] v e r = cc
  word_ends read empty (b ∷ w) v e r = word_fits (b ∷ w) e (omega arith)

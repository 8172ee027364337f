-- A set of lamps as a number: its ones, its first one, its ones under a mask, and one lamp more. Assumes nothing.
use mathlib.Core.Path.{◌≡◌, refl, sym, ap, ap₂, ◌∙◌}
use mathlib.Core.Bool.{Bool, true, false, cond}
use mathlib.Core.List.{List, [], ◌∷◌, ◌++◌}
use Prim.Native.Nat.{ℕ, zero, suc, ◌+◌, ◌-◌, ◌*◌, ◌/◌, ◌%◌, ◌^◌, ◌<◌, ◌≤◌}
use native.Mathlib.Nat.{not-suc-le-zero, le_of_suc-le-suc, add-zero, one-mul, mul_assoc, pow-suc}
use native.Mathlib.Omega.{arith}
use lib.Dec.{lit<}
use lib.Pow.{pow_pos, high, low, ones_lt, high_ones, shl_exact}
use lib.Bits.{bit_and, bit_or, and_high, or_shifted_r}
use lib.Count
use lib.Count.{under, count_trailing_zeros, trailing_of_zero, ones_step, ones_cat, ones-ones}
use lib.ListN.{length}
use Rattle.meaning.specs.Limits.{most_alternatives}
use Rattle.meaning.specs.Lamps.{bits, ones, first_lit}
use Rattle.lamps.specs.Masks.{mask}

-- the lowest bit, and the others
lowest : (b : Bool) (n : ℕ) → (cond b 1 0 + 2 * n) % 2 ≡ cond b 1 0
lowest true n = omega arith
lowest false n = omega arith

others : (b : Bool) (n : ℕ) → (cond b 1 0 + 2 * n) / 2 ≡ n
others true n = omega arith
others false n = omega arith

-- the count of ones is the number of lit lamps
pub count-is : (bs : List Bool) → Count.ones (bits bs) ≡ ones bs
unfolding bits ones
count-is [] = ones-ones 0
count-is (b ∷ bs) =
    ones_step (bits (b ∷ bs))
    ∙ ap₂ (λ (x y : ℕ). x + Count.ones y) (lowest b (bits bs)) (others b (bits bs))
    ∙ ap (λ (x : ℕ). cond b 1 0 + x) (count-is bs)

-- the trailing zeros of k bits, counted from i, are the place of the first lit lamp
trailing-from : (i k : ℕ) (bs : List Bool) → length bs ≤ k → k + i ≡ most_alternatives → count_trailing_zeros k (bits bs) + i ≡ first_lit i bs
unfolding bits first_lit count_trailing_zeros
trailing-from i k [] l e = ap (λ (t : ℕ). t + i) (trailing_of_zero k) ∙ e
trailing-from i zero (b ∷ bs) l e = absurd (not-suc-le-zero l)
trailing-from i (suc k) (b ∷ bs) l e =
    ap₂ (λ (x y : ℕ). under x (count_trailing_zeros k y) + i) (lowest b (bits bs)) (others b (bits bs))
    ∙ go b (trailing-from (suc i) k bs (le_of_suc-le-suc l) (omega arith))
  where
    go : (b : Bool) → count_trailing_zeros k (bits bs) + suc i ≡ first_lit (suc i) bs → under (cond b 1 0) (count_trailing_zeros k (bits bs)) + i ≡ cond b i (first_lit (suc i) bs)
    go true h = omega arith
    go false h = omega arith

pub first-is : (bs : List Bool) → length bs ≤ most_alternatives → count_trailing_zeros most_alternatives (bits bs) ≡ first_lit 0 bs
first-is bs l = sym (add-zero _) ∙ trailing-from 0 most_alternatives bs l refl

-- the lamps of ys stand above those of xs
bits-append : (xs ys : List Bool) → bits (xs ++ ys) ≡ bits ys * 2 ^ length xs + bits xs
unfolding bits
bits-append [] ys = omega arith
bits-append (b ∷ xs) ys =
    omega (arith, bits-append xs ys, ap (λ (x : ℕ). bits ys * x) (pow-suc 2 (length xs)) ∙ sym (mul_assoc (bits ys) (2 ^ length xs) 2))

bits_below : (bs : List Bool) → bits bs < 2 ^ length bs
unfolding bits
bits_below [] = lit< tt
bits_below (b ∷ bs) = go b (bits_below bs)
  where
    go : (b : Bool) → bits bs < 2 ^ length bs → cond b 1 0 + 2 * bits bs < 2 ^ suc (length bs)
    go true h = omega (arith, pow-suc 2 (length bs))
    go false h = omega (arith, pow-suc 2 (length bs))

-- the bits of ys, taken out
field : (xs ys zs : List Bool) → bits (xs ++ (ys ++ zs)) / 2 ^ length xs % 2 ^ length ys ≡ bits ys
field xs ys zs =
    ap (λ (x : ℕ). x / 2 ^ length xs % 2 ^ length ys) (bits-append xs (ys ++ zs))
    ∙ ap (λ (x : ℕ). x % 2 ^ length ys) (high (bits (ys ++ zs)) (length xs) (bits_below xs) ∙ bits-append ys zs)
    ∙ low (bits zs) (length ys) (bits_below ys)

-- the bit of one lamp
pub bit_at : (xs : List Bool) (b : Bool) (zs : List Bool) → bits (xs ++ (b ∷ zs)) / 2 ^ length xs % 2 ≡ cond b 1 0
unfolding bits
bit_at xs b zs = field xs (b ∷ []) zs ∙ add-zero (cond b 1 0)

-- under the mask of the bits of ys, the ones of ys are counted
pub count_under : (xs ys zs : List Bool) → Count.ones (bit_and (bits (xs ++ (ys ++ zs))) (mask (length xs) (length ys + length xs))) ≡ ones ys
count_under xs ys zs =
    ap Count.ones (and_high (bits (xs ++ (ys ++ zs))) (length ys) (length xs))
    ∙ ap (λ (x : ℕ). Count.ones (x * 2 ^ length xs)) (field xs ys zs)
    ∙ ap Count.ones (sym (add-zero (bits ys * 2 ^ length xs)))
    ∙ ones_cat (length xs) (bits ys) 0 (pow_pos (length xs))
    ∙ ap (λ (x : ℕ). Count.ones (bits ys) + x) (ones-ones 0)
    ∙ add-zero (Count.ones (bits ys))
    ∙ count-is ys

-- one bit alone, as the code makes it
shifted : (k : ℕ) → k < most_alternatives → 1 * 2 ^ k % 2 ^ most_alternatives ≡ 1 * 2 ^ k
shifted k l = shl_exact 1 k most_alternatives (lit< tt) (omega arith)

-- s bits, and the mask of the s bits from bit a on, as the code makes them
pub low_bits : (s : ℕ) → s < most_alternatives → 1 * 2 ^ s % 2 ^ most_alternatives ≡ 2 ^ s
low_bits s l = shifted s l ∙ one-mul (2 ^ s)

pub mask_is : (a s : ℕ) → s < most_alternatives → s + a ≤ most_alternatives → (1 * 2 ^ s % 2 ^ most_alternatives - 1) * 2 ^ a % 2 ^ most_alternatives ≡ mask a (s + a)
mask_is a s l h =
    ap (λ (x : ℕ). (x - 1) * 2 ^ a % 2 ^ most_alternatives) (low_bits s l)
    ∙ shl_exact s a most_alternatives (ones_lt s) h
    ∙ sym (high_ones s a)

-- one lamp more, lit or not
pub one_more : (bs : List Bool) (k : ℕ) → length bs ≡ k → k < most_alternatives → bit_or (bits bs) (1 * 2 ^ k % 2 ^ most_alternatives) ≡ bits (bs ++ (true ∷ []))
unfolding bits
one_more bs k e l =
    ap (bit_or (bits bs)) (shifted k l)
    ∙ or_shifted_r 1 k (bits bs) (rw e at (bits_below bs))
    ∙ rw e at (sym (bits-append bs (true ∷ [])))

pub none_more : (bs : List Bool) → bits bs ≡ bits (bs ++ (false ∷ []))
unfolding bits
none_more bs = omega (arith, bits-append bs (false ∷ []))

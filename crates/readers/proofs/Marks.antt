-- What a row of bytes is: its numbers and its filling, and the tests that tell its kind. Assumes nothing.
use mathlib.Core.Path.{◌≡◌, refl, sym, ap, ◌∙◌}
use mathlib.Core.Bool.{Bool, true, false, cond, ◌&&◌, and-false}
use mathlib.Core.List.{List, [], ◌∷◌}
use Prim.Native.Nat.{ℕ, zero, suc, ◌+◌, ◌-◌, ◌<◌, ◌≤◌}
use native.Mathlib.Numerals.{add-one}
use native.Mathlib.Omega.{arith}
use borrow.Author.Tests.{lt-ltb, le-ltb, le-leb, lt-leb, eq-eqb, ne_eqb}
use lib.Dec.{eqb, leb}
use lib.ListN.{length, get_or, take, drop, replicate}
use Rattle.meaning.specs.Limits.{blank_byte}
use Rattle.meaning.specs.Problem.{Alternative}
use Rattle.meaning.specs.Reasons.{loops, numbers, blank, filled, cycle_over, same, ring, onward, bad, dead_at, mark_row, kind}

-- the numbers stand at the front, and the filling is what follows them
numbers-front : (row : List ℕ) → numbers row ≡ take (length (numbers row)) row
unfolding numbers
numbers-front [] = refl
numbers-front (b ∷ bs) = by (eqb b blank_byte) (numbers-front bs)
  where
    by : (t : Bool) → numbers bs ≡ take (length (numbers bs)) bs → cond t [] (b ∷ numbers bs) ≡ take (length (cond t [] (b ∷ numbers bs))) (b ∷ bs)
    by true h = refl
    by false h = ap (λ (l : List ℕ). b ∷ l) h

pub numbers-few : (row : List ℕ) → length (numbers row) ≤ length row
unfolding numbers
numbers-few [] = omega arith
numbers-few (b ∷ bs) = by (eqb b blank_byte) (numbers-few bs)
  where
    by : (t : Bool) → length (numbers bs) ≤ length bs → length (cond t [] (b ∷ numbers bs)) ≤ suc (length bs)
    by true h = omega arith
    by false h = omega arith

-- how many there are, from one byte to the next
pub numbers-none : length (numbers []) ≡ 0
unfolding numbers
numbers-none = refl

pub numbers-end : (b : ℕ) (bs : List ℕ) → b ≡ blank_byte → length (numbers (b ∷ bs)) ≡ 0
unfolding numbers
numbers-end b bs e = rw (eq-eqb b blank_byte e) refl

pub numbers_more : (b : ℕ) (bs : List ℕ) → (b ≡ blank_byte → ⊥) → length (numbers (b ∷ bs)) ≡ length (numbers bs) + 1
unfolding numbers
numbers_more b bs n = rw (ne_eqb b blank_byte n, add-one (length (numbers bs))) refl

filled-rest : (row : List ℕ) → filled row ≡ blank (drop (length (numbers row)) row)
unfolding filled numbers blank
filled-rest [] = refl
filled-rest (b ∷ bs) = by (eqb b blank_byte) refl (filled-rest bs)
  where
    by : (t : Bool) → eqb b blank_byte ≡ t → filled bs ≡ blank (drop (length (numbers bs)) bs) → cond t (blank bs) (filled bs) ≡ blank (drop (length (cond t [] (b ∷ numbers bs))) (b ∷ bs))
    by true e h = sym (ap (λ (t : Bool). t && blank bs) e)
    by false e h = h

-- a mark row is its first byte, then 255s
same-blank : (n : ℕ) (bs : List ℕ) → length bs ≡ n → same bs (replicate n blank_byte) ≡ blank bs
unfolding same blank
same-blank zero [] e = refl
same-blank zero (b ∷ bs) e = absurd (omega arith)
same-blank (suc n) [] e = absurd (omega arith)
same-blank (suc n) (b ∷ bs) e = ap (λ (t : Bool). eqb b blank_byte && t) (same-blank n bs (omega arith))

same-mark : (W b m : ℕ) (bs : List ℕ) → suc (length bs) ≡ W → same (b ∷ bs) (mark_row W m) ≡ (eqb b m && blank bs)
unfolding same mark_row
same-mark W b m bs e = ap (λ (t : Bool). eqb b m && t) (same-blank (W - 1) bs (omega arith))

-- the kind of a row, by its first byte
pub kind-ring : (W : ℕ) (row : List ℕ) → (length row ≡ 0 → ⊥) → get_or row 0 0 < 128 → kind W row ≡ ring
unfolding kind
kind-ring W [] n h = absurd (n refl)
kind-ring W (b ∷ bs) n h = rw (lt-ltb b 128 h) refl

module _ (W : ℕ) (row : List ℕ) (n : length row ≡ 0 → ⊥) (e : length row ≡ W) (h : 128 ≤ get_or row 0 0) where
  kind-mark : kind W row ≡ cond (eqb (get_or row 0 0) 240 && blank (drop 1 row)) onward (cond (leb 200 (get_or row 0 0) && (eqb (get_or row 0 0) (get_or row 0 0) && blank (drop 1 row))) (dead_at (get_or row 0 0 - 200)) bad)
  kind-mark = by row n e h
    where
      by : (row : List ℕ) → (length row ≡ 0 → ⊥) → length row ≡ W → 128 ≤ get_or row 0 0 → kind W row ≡ cond (eqb (get_or row 0 0) 240 && blank (drop 1 row)) onward (cond (leb 200 (get_or row 0 0) && (eqb (get_or row 0 0) (get_or row 0 0) && blank (drop 1 row))) (dead_at (get_or row 0 0 - 200)) bad)
      by [] n e h = absurd (n refl)
      by (b ∷ bs) n e h = unfold kind in rw (le-ltb b 128 h, same-mark W b 240 bs e, same-mark W b b bs e) refl

  pub kind-unfilled : blank (drop 1 row) ≡ false → kind W row ≡ bad
  kind-unfilled f = kind-mark ∙ rw (f, and-false (eqb (get_or row 0 0) 240), and-false (eqb (get_or row 0 0) (get_or row 0 0)), and-false (leb 200 (get_or row 0 0))) refl

  module _ (f : blank (drop 1 row) ≡ true) where
    pub kind-onward : get_or row 0 0 ≡ 240 → kind W row ≡ onward
    kind-onward q = kind-mark ∙ rw (f, eq-eqb (get_or row 0 0) 240 q) refl

    module _ (q : get_or row 0 0 ≡ 240 → ⊥) where
      pub kind-low : get_or row 0 0 < 200 → kind W row ≡ bad
      kind-low l = kind-mark ∙ rw (f, ne_eqb (get_or row 0 0) 240 q, lt-leb 200 (get_or row 0 0) l) refl

      pub kind-dead : 200 ≤ get_or row 0 0 → kind W row ≡ dead_at (get_or row 0 0 - 200)
      kind-dead l = kind-mark ∙ rw (f, ne_eqb (get_or row 0 0) 240 q, le-leb 200 (get_or row 0 0) l, eq-eqb (get_or row 0 0) (get_or row 0 0) refl) refl

-- a cycle row is filled after its n numbers, and these loop
module _ (fs : List Alternative) (row : List ℕ) (n : ℕ) (e : n ≡ length (numbers row)) where
  pub cycle-unfilled : blank (drop n row) ≡ false → cycle_over fs row ≡ false
  unfolding cycle_over
  cycle-unfilled f = rw (filled-rest row, ← e, f) refl

  pub cycle-filled : blank (drop n row) ≡ true → cycle_over fs row ≡ loops fs (take n row)
  unfolding cycle_over
  cycle-filled f = rw (filled-rest row, ← e, f) (ap (loops fs) (numbers-front row ∙ rw e refl))

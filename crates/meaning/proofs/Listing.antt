-- The list of reasons as bytes: the rows of a search without a plan, each read as what it is, then 255s, are a reading; and a list that is one means that nothing holds.
-- Shown over the width of a row. Assumes nothing.
use mathlib.Core.Path.{◌≡◌, refl, sym, ap, ap₂, ◌∙◌, subst}
use mathlib.Core.Bool.{false}
use mathlib.Core.Option.{Option, some, none}
use mathlib.Core.List.{List, [], ◌∷◌, ◌++◌, append_assoc}
use Prim.Native.Nat.{ℕ, zero, suc, ◌+◌, ◌-◌, ◌*◌, ◌/◌, ◌<◌, ◌≤◌}
use native.Mathlib.Nat.{suc-mul, zero-mul, add-mul, mul-add-div_right}
use native.Mathlib.Omega.{arith}
use lib.Dec.{T, eqb}
use borrow.Author.Tests.{lt-ltb, ne_eqb}
use lib.ListN.{length, take, drop, replicate, length-append, length-take, length-replicate}
use lib.Seq.{take_at, drop_at, drop-append-add}
use mir.Facts.{yes_and}
use Rattle.laws.proofs.Lists.{drop-replicate}
use Rattle.meaning.specs.Limits.{most_alternatives, blank_byte}
use Rattle.meaning.specs.Problem.{Clause}
use Rattle.meaning.specs.Plain.{Selection, Holds}
use Rattle.meaning.specs.Decision.{at}
use Rattle.meaning.specs.Search.{Row, mark, cycle}
use Rattle.meaning.specs.Reasons.{numbers, blank, filled, ring, mark_row, kind, read, cut, rows_of, all_blank, ends, is_reading}
use Rattle.meaning.specs.Shortest.{shortest}
use Rattle.meaning.specs.Listing.{padded, row_of, listing}
use Rattle.meaning.proofs.Reading.{ReadAs, Front, read_none}

-- 255s are blank, and so is each part of them
pub blanks : (k : ℕ) → T (blank (replicate k blank_byte))
unfolding blank
blanks zero = tt
blanks (suc k) = blanks k

take-blanks : (n k : ℕ) → T (blank (take n (replicate k blank_byte)))
unfolding blank
take-blanks zero k = tt
take-blanks (suc n) zero = tt
take-blanks (suc n) (suc k) = take-blanks n k

-- ---- one row
-- a number of a row is no 255
not-blank : (b : ℕ) → b < 2 * most_alternatives → eqb b blank_byte ≡ false
not-blank b h = ne_eqb b blank_byte (λ e. omega arith)

module _ (W : ℕ) where
  pub row-kind : (l : List ℕ) (k : ℕ) → 0 < length l → ((i : ℕ) → i < length l → at l i < 2 * most_alternatives) → kind W (l ++ replicate k blank_byte) ≡ ring
  unfolding kind
  row-kind [] k s h = absurd (omega arith)
  row-kind (b ∷ l) k s h = rw (lt-ltb b (2 * most_alternatives) (h 0 (omega arith))) refl

pub row-numbers : (l : List ℕ) (k : ℕ) → ((i : ℕ) → i < length l → at l i < 2 * most_alternatives) → numbers (l ++ replicate k blank_byte) ≡ l
unfolding numbers
row-numbers [] zero h = refl
row-numbers [] (suc k) h = refl
row-numbers (b ∷ l) k h =
    rw (not-blank b (h 0 (omega arith))) (ap {B = List ℕ} (λ r. b ∷ r) (row-numbers l k (λ i m. h (suc i) (omega arith))))

pub row-filled : (l : List ℕ) (k : ℕ) → ((i : ℕ) → i < length l → at l i < 2 * most_alternatives) → T (filled (l ++ replicate k blank_byte))
unfolding filled
row-filled [] zero h = tt
row-filled [] (suc k) h = blanks k
row-filled (b ∷ l) k h = rw (not-blank b (h 0 (omega arith))) (row-filled l k (λ i m. h (suc i) (omega arith)))

-- numbers that W bytes hold, then 255s
pub padded-is : (W : ℕ) (l : List ℕ) → length l ≤ W → padded W l ≡ l ++ replicate (W - length l) blank_byte
unfolding padded
padded-is W l h = part W W l h (omega arith)
  where
    ones : (k m : ℕ) → k ≤ m → take k (replicate m blank_byte) ≡ replicate k blank_byte
    ones zero m q = refl
    ones (suc k) zero q = absurd (omega arith)
    ones (suc k) (suc m) q = ap (λ (r : List ℕ). blank_byte ∷ r) (ones k m (omega arith))

    part : (k m : ℕ) (l : List ℕ) → length l ≤ k → k ≤ length l + m → take k (l ++ replicate m blank_byte) ≡ l ++ replicate (k - length l) blank_byte
    part k m [] p q = let e : k - 0 ≡ k = omega arith in rw e (ones k m (omega arith))
    part zero m (b ∷ l) p q = absurd (omega arith)
    part (suc k) m (b ∷ l) p q = let e : suc k - suc (length l) ≡ k - length l = omega arith in rw e (ap (λ (r : List ℕ). b ∷ r) (part k m l (omega arith) (omega arith)))

-- ---- rows one after another
module _ (W : ℕ) (wide : 0 < W) where
  pub row-length : (x : Row) → length (row_of W x) ≡ W
  unfolding row_of padded mark_row
  row-length (mark b) = ap suc (length-replicate (W - 1) blank_byte) ∙ omega arith
  row-length (cycle fs) = omega (arith, length-take W (shortest fs ++ replicate W blank_byte), length-append (shortest fs) (replicate W blank_byte), length-replicate {A = ℕ} W blank_byte)

  pub listing-length : (r : List Row) → length (listing W r) ≡ length r * W
  unfolding listing
  listing-length [] = sym (zero-mul W)
  listing-length (x ∷ r) = length-append (row_of W x) (listing W r) ∙ omega (arith, row-length x, listing-length r, suc-mul (length r) W)

  pub listing-append : (r s : List Row) → listing W (r ++ s) ≡ listing W r ++ listing W s
  unfolding listing
  listing-append [] s = refl
  listing-append (x ∷ r) s = ap (λ (l : List ℕ). row_of W x ++ l) (listing-append r s) ∙ sym (append_assoc (row_of W x) (listing W r) (listing W s))

  -- each row as it is written is read as what it is
  abbrev pub AllRead : List Row → Type 0
  AllRead [] = Unit {0}
  AllRead (x ∷ r) = ReadAs W x (row_of W x) × AllRead r

  -- cut into rows, the list begins with the rows written
  cut-listing : (r : List Row) (j : ℕ) (more : List ℕ) → AllRead r → Front W r (cut W (length r + j) (listing W r ++ more)) (cut W j more)
  unfolding listing
  cut-listing [] j more h = ap (λ (n : ℕ). cut W n more) (omega arith)
  cut-listing (x ∷ r) j more (w, h) = (
    row_of W x,
    cut W (length r + j) (listing W r ++ more),
    ap₂ (λ (n : ℕ) (l : List ℕ). cut W n l) (let p : suc (length r) + j ≡ suc (length r + j) = omega arith in p) (append_assoc (row_of W x) (listing W r) more) ∙ first,
    w,
    cut-listing r j more h,
  )
    where
      first : cut W (suc (length r + j)) (row_of W x ++ (listing W r ++ more)) ≡ row_of W x ∷ cut W (length r + j) (listing W r ++ more)
      first =
          unfold cut in
          ap₂ (λ (a b : List ℕ). a ∷ cut W (length r + j) b) (take_at (row_of W x) (listing W r ++ more) W (row-length x)) (drop_at (row_of W x) (listing W r ++ more) W (row-length x))

  cut-blanks : (j k : ℕ) → T (all_blank W (cut W j (replicate k blank_byte)))
  unfolding cut all_blank
  cut-blanks zero k = tt
  cut-blanks (suc j) k =
      yes_and (blank (take W (replicate k blank_byte))) (all_blank W (cut W j (drop W (replicate k blank_byte)))) (take-blanks W k)
      (subst (λ (l : List ℕ). T (all_blank W (cut W j l))) (sym (drop-replicate W k blank_byte)) (cut-blanks j (k - W)))

  -- the rows of a search that ended without a plan, and 255s after them
  pub listing-reading : (cs : List Clause) (r : List Row) (k : ℕ) → AllRead r → ((rows rest : List (List ℕ)) → Front W r rows rest → read W cs 0 [] rows ≡ some rest) → T (is_reading W cs (listing W r ++ replicate k blank_byte))
  unfolding is_reading rows_of
  listing-reading cs r k all readable =
      subst (λ (o : Option (List (List ℕ))). T (ends W o (drop (length list / W * W) list))) (sym is_read) (unfold ends in yes_and (all_blank W (cut W (k / W) (replicate k blank_byte))) (blank (drop (length list / W * W) list)) (cut-blanks (k / W) k) (subst (λ (l : List ℕ). T (blank l)) (sym tail-is) (blanks (k - k / W * W))))
    where
      list : List ℕ
      list = listing W r ++ replicate k blank_byte

      size : length list ≡ length r * W + k
      size = length-append (listing W r) (replicate k blank_byte) ∙ ap₂ ◌+◌ (listing-length r) (length-replicate k blank_byte)

      many : length list / W ≡ length r + k / W
      many = ap (λ (m : ℕ). m / W) size ∙ mul-add-div_right wide (length r) k

      is_read : read W cs 0 [] (cut W (length list / W) list) ≡ some (cut W (k / W) (replicate k blank_byte))
      is_read =
          ap (λ (m : ℕ). read W cs 0 [] (cut W m list)) many
          ∙ readable _ _ (cut-listing r (k / W) (replicate k blank_byte) all)

      tail-is : drop (length list / W * W) list ≡ replicate (k - k / W * W) blank_byte
      tail-is =
          ap (λ (m : ℕ). drop m list) (ap (λ (m : ℕ). m * W) many ∙ add-mul (length r) (k / W) W ∙ ap (λ (m : ℕ). m + k / W * W) (sym (listing-length r)))
          ∙ drop-append-add (listing W r) (replicate k blank_byte) (k / W * W)
          ∙ drop-replicate (k / W * W) k blank_byte

-- a list that is a reading: no selection holds
pub reading-none : (W : ℕ) (cs : List Clause) (list : List ℕ) → T (is_reading W cs list) → (q : List ℕ) → Selection cs q → ¬ Holds cs q
unfolding is_reading
reading-none W cs list t = go (read W cs 0 [] (rows_of W list)) refl t
  where
    go : (o : Option (List (List ℕ))) → read W cs 0 [] (rows_of W list) ≡ o → T (ends W o (drop (length list / W * W) list)) → (q : List ℕ) → Selection cs q → ¬ Holds cs q
    go none e u = unfold ends in absurd u
    go (some rest) e u = read_none W cs (rows_of W list) rest e

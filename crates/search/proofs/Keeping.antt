-- Rows put at the end of what is kept. Assumes nothing.
use mathlib.Core.Path.{◌≡◌, refl, sym, ap, ap₂, ◌∙◌, subst}
use mathlib.Core.Bool.{Bool, cond}
use mathlib.Core.List.{List, [], ◌∷◌, ◌++◌, map, append_assoc, append-nil}
use Prim.Native.Nat.{ℕ, suc, ◌+◌, ◌-◌, ◌*◌, ◌<◌, ◌≤◌}
use native.Mathlib.Nat.{add-mul}
use native.Mathlib.Decide.{dec_lt}
use native.Mathlib.Omega.{arith}
use lib.Dec.{leb, leb→le, le→leb}
use lib.ListN.{length, take, drop, replicate, length-append, length-take, length-drop, length-map}
use lib.Seq.{take_at, drop-append-add}
use Rattle.laws.proofs.Lists.{drop-replicate}
use Rattle.laws.proofs.Tests.{is_true, is_false}
use Rattle.meaning.specs.Limits.{row_bytes, blank_byte}
use Rattle.meaning.specs.Problem.{Alternative}
use Rattle.meaning.specs.Search.{Row, mark, cycle}
use Rattle.meaning.specs.Reasons.{mark_row}
use Rattle.meaning.specs.Listing.{row_of, listing, rows_in}
use Rattle.meaning.proofs.Listing.{row-length, listing-length, listing-append}
use Rattle.problem.specs.Arcs.{Net, arc, arcs_from}
use Rattle.problem.proofs.Laying.{arcs-length}
use Rattle.search.proofs.Dead.{arcs-last}
use Rattle.search.specs.Listing.{put_row, Kept, Keeps}

-- where there is room, and where there is none
pub put-fits : (bytes : List ℕ) (k : ℕ) (row : List ℕ) → k * row_bytes + row_bytes ≤ length bytes → put_row bytes k row ≡ take (k * row_bytes) bytes ++ (row ++ drop (k * row_bytes + length row) bytes)
unfolding put_row
put-fits bytes k row h = ap (λ (b : Bool). cond b (take (k * row_bytes) bytes ++ (row ++ drop (k * row_bytes + length row) bytes)) bytes) (is_true (leb (k * row_bytes + row_bytes) (length bytes)) (le→leb (k * row_bytes + row_bytes) (length bytes) h))

pub put-not : (bytes : List ℕ) (k : ℕ) (row : List ℕ) → length bytes < k * row_bytes + row_bytes → put_row bytes k row ≡ bytes
unfolding put_row
put-not bytes k row h = ap (λ (b : Bool). cond b (take (k * row_bytes) bytes ++ (row ++ drop (k * row_bytes + length row) bytes)) bytes) (is_false (leb (k * row_bytes + row_bytes) (length bytes)) (λ t. contra (leb→le (k * row_bytes + row_bytes) (length bytes) t)))
  where
    contra : k * row_bytes + row_bytes ≤ length bytes → ⊥
    contra g = omega arith

pub put-length : (bytes : List ℕ) (k : ℕ) (row : List ℕ) → length row ≡ row_bytes → length (put_row bytes k row) ≡ length bytes
put-length bytes k row e = go (dec_lt (length bytes) (k * row_bytes + row_bytes))
  where
    go : Dec (length bytes < k * row_bytes + row_bytes) → length (put_row bytes k row) ≡ length bytes
    go (yes h) = ap length (put-not bytes k row h)
    go (no h) =
        ap length (put-fits bytes k row (omega arith))
        ∙ length-append (take (k * row_bytes) bytes) (row ++ drop (k * row_bytes + length row) bytes)
        ∙ omega (arith, length-append row (drop (k * row_bytes + length row) bytes), length-take (k * row_bytes) bytes, length-drop (k * row_bytes + length row) bytes)

-- a row is put where the rows kept so far end
module _ (room : ℕ) (rows : List Row) (reasons : List ℕ) (x : Row) (kept : Kept room rows reasons) where
  row : List ℕ
  row = row_of row_bytes x

  list : List ℕ
  list = listing row_bytes rows

  wide : length row ≡ row_bytes
  unfolding row
  wide = row-length row_bytes (omega arith) x

  more_rows : length (rows ++ x ∷ []) * row_bytes ≡ length rows * row_bytes + row_bytes
  more_rows =
      ap (λ (n : ℕ). n * row_bytes) (length-append rows (x ∷ []))
      ∙ add-mul (length rows) 1 row_bytes

  list-more : listing row_bytes (rows ++ x ∷ []) ≡ list ++ row
  unfolding list row listing
  list-more = listing-append row_bytes (omega arith) rows (x ∷ []) ∙ ap (λ (l : List ℕ). listing row_bytes rows ++ l) (append-nil (row_of row_bytes x))

  listed : length (rows ++ x ∷ []) * row_bytes ≤ room → put_row reasons (length rows) row ≡ rows_in row_bytes room (rows ++ x ∷ [])
  unfolding rows_in list
  listed h =
      put-fits reasons (length rows) row (omega (arith, more_rows, kept.size))
      ∙ ap₂ (λ (a b : List ℕ). a ++ (row ++ b)) front rest
      ∙ sym (append_assoc list row (replicate (room - length list - length row) blank_byte))
      ∙ ap₂ (λ (l : List ℕ) (n : ℕ). l ++ replicate n blank_byte) (sym list-more) count
    where
      is : reasons ≡ list ++ replicate (room - length list) blank_byte
      is = kept.lists (omega (arith, more_rows))

      long : length list ≡ length rows * row_bytes
      long = listing-length row_bytes (omega arith) rows

      front : take (length rows * row_bytes) reasons ≡ list
      front = ap (take (length rows * row_bytes)) is ∙ take_at list (replicate (room - length list) blank_byte) (length rows * row_bytes) long

      rest : drop (length rows * row_bytes + length row) reasons ≡ replicate (room - length list - length row) blank_byte
      rest =
          ap₂ (λ (n : ℕ) (b : List ℕ). drop (n + length row) b) (sym long) is
          ∙ drop-append-add list (replicate (room - length list) blank_byte) (length row)
          ∙ drop-replicate (length row) (room - length list) blank_byte

      count : room - length list - length row ≡ room - length (listing row_bytes (rows ++ x ∷ []))
      count = omega (arith, ap length list-more, length-append list row)

  pub keep_row : Kept room (rows ++ x ∷ []) (put_row reasons (length rows) (row_of row_bytes x))
  unfolding row
  keep_row = record { size = put-length reasons (length rows) row wide ∙ kept.size; lists = listed }

-- nothing put, and one thing after another
pub keeps-none : (bytes : List ℕ) (count : ℕ) → Keeps bytes bytes count []
keeps-none bytes count = record { keeps = λ rows e k. subst (λ (r : List Row). Kept (length bytes) r bytes) (sym (append-nil rows)) k }

pub keeps-row : (bytes : List ℕ) (count : ℕ) (x : Row) → Keeps bytes (put_row bytes count (row_of row_bytes x)) count (x ∷ [])
keeps-row bytes count x =
    record { keeps = λ rows e k. subst (λ (n : ℕ). Kept (length bytes) (rows ++ x ∷ []) (put_row bytes n (row_of row_bytes x))) e (keep_row (length bytes) rows bytes x k) }

pub row-put : (bytes : List ℕ) (count : ℕ) (x : Row) → length (put_row bytes count (row_of row_bytes x)) ≡ length bytes
row-put bytes count x = put-length bytes count (row_of row_bytes x) (row-length row_bytes (omega arith) x)

pub keeps-mark : (bytes : List ℕ) (count b : ℕ) → Keeps bytes (put_row bytes count (mark_row row_bytes b)) count (mark b ∷ [])
unfolding row_of
keeps-mark bytes count b = keeps-row bytes count (mark b)

pub mark-length : (bytes : List ℕ) (count b : ℕ) → length (put_row bytes count (mark_row row_bytes b)) ≡ length bytes
mark-length bytes count b = put-length bytes count (mark_row row_bytes b) (unfold mark_row in refl)

-- rows that have no room are kept by doing nothing
pub keeps-over : (bytes : List ℕ) (count : ℕ) (more : List Row) → length bytes < count * row_bytes + row_bytes → Keeps bytes bytes count more
keeps-over bytes count [] l = keeps-none bytes count
keeps-over bytes count (x ∷ more) l =
    record { keeps = λ rows e k. record { size = refl; lists = λ h. absurd (over rows e h) } }
  where
    over : (rows : List Row) → length rows ≡ count → length (rows ++ x ∷ more) * row_bytes ≤ length bytes → ⊥
    over rows e h =
        omega (arith, sym (ap (λ (n : ℕ). n * row_bytes) (length-append rows (x ∷ more))), add-mul (length rows) (suc (length more)) row_bytes, add-mul 1 (length more) row_bytes, ap (λ (n : ℕ). n * row_bytes) e)

pub keeps_then : (a b c : List ℕ) (n m : ℕ) (r s : List Row) → length b ≡ length a → m ≡ n + length r → Keeps a b n r → Keeps b c m s → Keeps a c n (r ++ s)
keeps_then a b c n m r s l e f g =
    record { keeps = λ rows d k. subst (λ (x : List Row). Kept (length a) x c) (append_assoc rows r s) (subst (λ (z : ℕ). Kept z ((rows ++ r) ++ s) c) l (g.keeps (rows ++ r) (length-append rows r ∙ omega arith) (subst (λ (z : ℕ). Kept z (rows ++ r) b) (sym l) (f.keeps rows d k)))) }

-- the cycle row of one alternative more
pub keep-cycle : (a b : List ℕ) (n k i j : ℕ) (g : Net) (fs : List Alternative) → Keeps a b n (map (λ x. cycle (x ∷ fs)) (arcs_from g i (j - i))) → length b ≡ length a → k ≡ n + (j - i) → i ≤ j → Keeps a (put_row b k (row_of row_bytes (cycle (arc g j ∷ fs)))) n (map (λ x. cycle (x ∷ fs)) (arcs_from g i (j + 1 - i)))
keep-cycle a b n k i j g fs h l e m =
    subst (Keeps a (put_row b k (row_of row_bytes (cycle (arc g j ∷ fs)))) n) (sym (arcs-last (λ x. cycle (x ∷ fs)) g i j m))
    (keeps_then a b _ n k _ (cycle (arc g j ∷ fs) ∷ []) l (omega (arith, e, length-map (arcs_from g i (j - i)) (λ x. cycle (x ∷ fs)), arcs-length g i (j - i))) h (keeps-row b k (cycle (arc g j ∷ fs))))

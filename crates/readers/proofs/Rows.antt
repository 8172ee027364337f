-- A list of bytes in rows, and the whole reading of it. Assumes nothing.
use Rattle.std.proofs.Common.{◌≡◌, ℕ, zero, suc, ◌*◌, ◌/◌, false, ◌&&◌, List, [], ◌∷◌, length, take, drop, refl, sym, ap, ◌∙◌}
use Rattle.std.specs.Simd.{first_chunks}
use mathlib.Core.Option.{some, none}
use Rattle.meaning.specs.Limits.{row_bytes}
use Rattle.meaning.specs.Problem.{Clause}
use Rattle.meaning.specs.Reasons.{blank, read, cut, rows_of, all_blank, ends, is_reading}

-- the rows are the library's chunks
pub chunks-cut : (W n : ℕ) (bytes : List ℕ) → first_chunks W n bytes ≡ cut W n bytes
unfolding cut
chunks-cut W zero bytes = refl
chunks-cut W (suc n) bytes = ap (λ rows. take W bytes ∷ rows) (chunks-cut W n (drop W bytes))

module _ (cs : List Clause) (bytes : List ℕ) (rows : List (List ℕ)) (e : rows ≡ first_chunks row_bytes (length bytes / row_bytes) bytes) where
  told : read row_bytes cs 0 [] (rows_of row_bytes bytes) ≡ read row_bytes cs 0 [] rows
  unfolding rows_of
  told = ap (read row_bytes cs 0 []) (sym (e ∙ chunks-cut row_bytes (length bytes / row_bytes) bytes))

  pub whole-no : read row_bytes cs 0 [] rows ≡ none → is_reading row_bytes cs bytes ≡ false
  unfolding is_reading ends
  whole-no q = rw (told, q) refl

  pub whole_row : (rest : List (List ℕ)) → read row_bytes cs 0 [] rows ≡ some rest → is_reading row_bytes cs bytes ≡ (all_blank row_bytes rest && blank (drop (length bytes / row_bytes * row_bytes) bytes))
  unfolding is_reading ends
  whole_row rest q = rw (told, q) refl

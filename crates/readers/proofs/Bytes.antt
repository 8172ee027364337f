-- Tests of bytes by the library's words: whether all are 255, of bytes and of rows. Assumes nothing.
use Rattle.std.proofs.Common.{◌≡◌, refl, ap, ℕ, List, [], ◌∷◌, ◌&&◌, eqb}
use Rattle.std.specs.List.{list_all}
use Rattle.meaning.specs.Limits.{blank_byte}
use Rattle.meaning.specs.Reasons.{blank, all_blank}

pub all-blank : (bytes : List ℕ) → list_all (λ b. eqb b blank_byte) bytes ≡ blank bytes
unfolding blank
all-blank [] = refl
all-blank (b ∷ bytes) = ap (λ t. eqb b blank_byte && t) (all-blank bytes)

pub rows-blank : (W : ℕ) (rows : List (List ℕ)) → list_all blank rows ≡ all_blank W rows
unfolding all_blank
rows-blank W [] = refl
rows-blank W (row ∷ rows) = ap (λ t. blank row && t) (rows-blank W rows)

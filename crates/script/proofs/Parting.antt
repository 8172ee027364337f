-- Parts of the triples are parts of the alternatives, three numbers for each; how they are numbered does not show in their texts. Assumes nothing.
use mathlib.Core.Path.{◌≡◌, refl, ap, ◌∙◌}
use mathlib.Core.List.{List, [], ◌∷◌, map}
use Prim.Native.Nat.{ℕ, zero, suc, ◌+◌, ◌*◌}
use native.Mathlib.Omega.{arith}
use lib.IntN.{ℤ, nat_abs}
use lib.ListN.{take, drop}
use Rattle.meaning.specs.Problem.{Alternative}
use Rattle.meaning.specs.Screen.{alternatives}
use Rattle.script.specs.Text.{atom_text}

three-more : (k : ℕ) → suc k * 3 ≡ suc (suc (suc (k * 3)))
three-more k = omega arith

pub take-alternatives : (k j : ℕ) (ts : List ℤ) → take k (alternatives j ts) ≡ alternatives j (take (k * 3) ts)
unfolding alternatives
take-alternatives zero j ts = refl
take-alternatives (suc k) j [] = rw (three-more k)
take-alternatives (suc k) j (x ∷ []) = rw (three-more k)
take-alternatives (suc k) j (x ∷ (y ∷ [])) = rw (three-more k)
take-alternatives (suc k) j (x ∷ (y ∷ (c ∷ ts))) =
    rw (three-more k) (ap (λ (l : List Alternative). record { no = j; x = nat_abs x; y = nat_abs y; c = c } ∷ l) (take-alternatives k (suc j) ts))

pub drop-alternatives : (k j : ℕ) (ts : List ℤ) → drop k (alternatives j ts) ≡ alternatives (j + k) (drop (k * 3) ts)
unfolding alternatives
drop-alternatives zero j ts = ap (λ (i : ℕ). alternatives i ts) (let q : j ≡ j + 0 = omega arith in q)
drop-alternatives (suc k) j [] = rw (three-more k)
drop-alternatives (suc k) j (x ∷ []) = rw (three-more k)
drop-alternatives (suc k) j (x ∷ (y ∷ [])) = rw (three-more k)
drop-alternatives (suc k) j (x ∷ (y ∷ (c ∷ ts))) =
    rw (three-more k) (drop-alternatives k (suc j) ts ∙ ap (λ (i : ℕ). alternatives i (drop (k * 3) ts)) (let q : suc j + k ≡ j + suc k = omega arith in q))

pub atoms-alike : (i j : ℕ) (ts : List ℤ) → map atom_text (alternatives i ts) ≡ map atom_text (alternatives j ts)
unfolding alternatives
atoms-alike i j [] = refl
atoms-alike i j (x ∷ []) = refl
atoms-alike i j (x ∷ (y ∷ [])) = refl
atoms-alike i j (x ∷ (y ∷ (c ∷ ts))) = ap (λ (l : List (List ℕ)). atom_text (record { no = i; x = nat_abs x; y = nat_abs y; c = c }) ∷ l) (atoms-alike (suc i) (suc j) ts)

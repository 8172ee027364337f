-- When two words are the same, and whether a word is one of the kept words. Assumes nothing.
use mathlib.Core.Path.{◌≡◌, refl, ap, ap₂, subst}
use mathlib.Core.Bool.{Bool, true, false, ◌&&◌}
use mathlib.Core.List.{List, [], ◌∷◌}
use Prim.Native.Nat.{ℕ}
use Prim.Native.String.{String}
use mir.Facts.{and_yes}
use borrow.Author.Tests.{eq-eqb}
use lib.Dec.{T, eqb, eqb→eq}
use lib.Pointwise.{pointwise}
use Rattle.std.specs.List.{list_any}
use Rattle.std.specs.Prelude.{map, ◌||◌}
use Rattle.laws.proofs.Tests.{is_false}
use Rattle.grammar.specs.Grammar.{bytes}
use Rattle.script.specs.Words.{same_word, one_of}

-- ---- two words
same_self : (a : List ℕ) → same_word a a ≡ true
unfolding same_word
same_self [] = refl
same_self (x ∷ a) = rw (eq-eqb x x refl) (same_self a)

equal_of : (a b : List ℕ) → T (same_word a b) → a ≡ b
unfolding same_word
equal_of [] [] t = refl
equal_of [] (y ∷ b) t = absurd t
equal_of (x ∷ a) [] t = absurd t
equal_of (x ∷ a) (y ∷ b) t =
    let p = and_yes (eqb x y) (same_word a b) t in
    let e : x ≡ y = eqb→eq x y p.0 in
    let f : a ≡ b = equal_of a b p.1 in
    cc

pub same-word : (a b : List ℕ) → a ≡ b → same_word a b ≡ true
same-word a b e = subst (λ (w : List ℕ). same_word a w ≡ true) e (same_self a)

pub other_word : (a b : List ℕ) → (a ≡ b → ⊥) → same_word a b ≡ false
other_word a b d = is_false (same_word a b) (λ t. d (equal_of a b t))

-- as the code compares them
pub compared : (a b : List ℕ) → pointwise eqb a b ≡ same_word a b
unfolding same_word
compared [] [] = refl
compared [] (y ∷ b) = refl
compared (x ∷ a) [] = refl
compared (x ∷ a) (y ∷ b) = ap (λ (t : Bool). eqb x y && t) (compared a b)

-- ---- the kept words, as the code has them
pub any-one : (words : List String) (w : List ℕ) → list_any (λ v. pointwise eqb v w) (map bytes words) ≡ one_of words w
unfolding one_of
any-one [] w = refl
any-one (s ∷ more) w = ap₂ (λ (x y : Bool). x || y) (compared (bytes s) w) (any-one more w)

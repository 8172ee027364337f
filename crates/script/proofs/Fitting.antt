-- The front of a list in so many places: one element more, while there is a place for it. Assumes nothing.
use mathlib.Core.Path.{◌≡◌, refl, sym, ap, ◌∙◌}
use mathlib.Core.List.{List, [], ◌∷◌, ◌++◌, append_assoc}
use Prim.Native.Nat.{ℕ, zero, suc, ◌+◌, ◌*◌, ◌<◌, ◌≤◌}
use native.Mathlib.Nat.{not-suc-le-zero}
use native.Mathlib.Omega.{arith}
use lib.IntN.{ℤ, pos}
use lib.ListN.{length, take, set, replicate, length-append}
use lib.Seq.{take-append-le, take-set-lt, set-append_seam}
use Rattle.meaning.specs.Limits.{most_alternatives}
use Rattle.script.specs.Script.{fitted, in_triples}

module _ {A : Type 0} (z : A) where
  take-replicate : (w a : ℕ) → w ≤ a → take w (replicate a z) ≡ replicate w z
  take-replicate zero a h = refl
  take-replicate (suc w) zero h = absurd (not-suc-le-zero h)
  take-replicate (suc w) (suc a) h = ap (λ (l : List A). z ∷ l) (take-replicate w a (omega arith))

  -- what lies past the front does not matter
  same-front : (w : ℕ) (l : List A) (a b : ℕ) → w ≤ length l + a → w ≤ length l + b → take w (l ++ replicate a z) ≡ take w (l ++ replicate b z)
  same-front w [] a b h k = take-replicate w a (omega arith) ∙ sym (take-replicate w b (omega arith))
  same-front zero (x ∷ l) a b h k = refl
  same-front (suc w) (x ∷ l) a b h k = ap (λ (m : List A). x ∷ m) (same-front w l a b (omega arith) (omega arith))

  -- a store at the first place left is one element more
  pub one-fitted : (w : ℕ) (l : List A) (v : A) (i : ℕ) → i ≡ length l → i < w → set (fitted w z l) i v ≡ fitted w z (l ++ (v ∷ []))
  one-fitted zero l v i e h = absurd (not-suc-le-zero h)
  one-fitted (suc w) l v i e h =
      sym (take-set-lt (suc w) (l ++ (z ∷ replicate w z)) i v h)
      ∙ ap (λ (j : ℕ). take (suc w) (set (l ++ (z ∷ replicate w z)) j v)) e
      ∙ ap (take (suc w)) (set-append_seam l z (replicate w z) v ∙ sym (append_assoc l (v ∷ []) (replicate w z)))
      ∙ same-front (suc w) (l ++ (v ∷ [])) w (suc w) (simp (length-append) (omega arith)) (simp (length-append) (omega arith))

  -- where no place is left, nothing changes
  pub none-fitted : (w : ℕ) (l m : List A) → w ≤ length l → fitted w z (l ++ m) ≡ fitted w z l
  none-fitted w l m h =
      take-append-le w (l ++ m) (replicate w z) (simp (length-append) (omega arith))
      ∙ take-append-le w l m h ∙ sym (take-append-le w l (replicate w z) h)

-- an alternative's three numbers
pub three-fitted : (l : List ℤ) (k : ℕ) (x y c : ℤ) → length l ≡ k * 3 → k < most_alternatives → set (set (set (in_triples l) (k * 3) x) (k * 3 + 1) y) (k * 3 + 2) c ≡ in_triples (l ++ (x ∷ y ∷ c ∷ []))
three-fitted l k x y c e h =
    let w : ℕ = 3 * most_alternatives in
    let m : List ℤ = l ++ (x ∷ []) in
    let first = one-fitted (pos 0) w l x (k * 3) (sym e) (omega arith) in
    let second = one-fitted (pos 0) w m y (k * 3 + 1) (simp (length-append) (omega arith)) (omega arith) in
    let third = one-fitted (pos 0) w (m ++ (y ∷ [])) c (k * 3 + 2) (simp (length-append) (omega arith)) (omega arith) in
    ap (λ (a : List ℤ). set (set a (k * 3 + 1) y) (k * 3 + 2) c) first ∙ ap (λ (a : List ℤ). set a (k * 3 + 2) c) second ∙ third
    ∙ ap in_triples (append_assoc m (y ∷ []) (c ∷ []) ∙ append_assoc l (x ∷ []) (y ∷ c ∷ []))

-- A loop that writes a list t over d, one store a turn: after n turns the first n elements are t's and the rest is d's. Assumes nothing.
use mathlib.Core.Path.{◌≡◌, sym, ap, ap₂, ◌∙◌}
use mathlib.Core.List.{List, ◌∷◌, ◌++◌, append-nil}
use Prim.Native.Nat.{ℕ, suc, ◌+◌, ◌-◌, ◌<◌, ◌≤◌}
use native.Mathlib.Numerals.{add-one}
use native.Mathlib.Omega.{arith}
use lib.ListN.{get_or, take, length, set, length-set, drop, drop_of_length-le}
use lib.Seq.{paste, paste-suc, take_all, drop-cons, drop-set-lt, get_or-set_same}

module _ {A : Type 0} where
  -- written from a place on
  pub copy_more : (from n : ℕ) (v z : A) (s t d : List A) → s ≡ paste d from t n → from + n < length d → n < length t → v ≡ get_or t n z → set s (from + n) v ≡ paste d from t (n + 1)
  copy_more from n v z s t d e l m q = rw (e, q, add-one) (paste-suc d from t n z l m)

  -- written from the front
  pub write-more : (n : ℕ) (v z : A) (s t d : List A) → s ≡ take n t ++ drop n d → n < length t → n < length d → v ≡ get_or t n z → set s n v ≡ take (n + 1) t ++ drop (n + 1) d
  write-more n v z s t d e l m q =
      let at : 0 + n ≡ n = omega arith in
      let past : 0 + (n + 1) ≡ n + 1 = omega arith in
      let first : s ≡ paste d 0 t n = e ∙ ap (λ (k : ℕ). take n t ++ drop k d) (sym at) in
      ap (λ (k : ℕ). set s k v) (sym at) ∙ copy_more 0 n v z s t d first (omega arith) l q ∙ ap (λ (k : ℕ). take (n + 1) t ++ drop k d) past

  -- written to the end
  pub written : (n : ℕ) (s t d : List A) → s ≡ take n t ++ drop n d → length t ≤ n → length d ≤ n → s ≡ t
  written n s t d e l m = e ∙ rw (take_all n t l, drop_of_length-le d m) (append-nil t)

-- what is stored at a place comes first from there on
put-here : (l : List ℕ) (i v : ℕ) → i < length l → drop i (set l i v) ≡ v ∷ drop (suc i) l
put-here l i v h =
    drop-cons (set l i v) i 0 (simp length-set h)
    ∙ ap₂ {C = List ℕ} (λ x r. x ∷ r) (get_or-set_same l i v 0 h) (drop-set-lt (suc i) l i v (omega arith))

-- what is stored before place `at` comes first from there on
pub put-before : (l : List ℕ) (at v : ℕ) → 0 < at → at ≤ length l → drop (at - 1) (set l (at - 1) v) ≡ v ∷ drop at l
put-before l at v p h =
    put-here l (at - 1) v (omega arith) ∙ ap (λ (i : ℕ). v ∷ drop i l) (let e : suc (at - 1) ≡ at = omega arith in e)

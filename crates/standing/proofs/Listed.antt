-- A list by its elements: f 0, f 1 and so on. Assumes nothing.
use mathlib.Core.Path.{◌≡◌, refl, sym, ap, ap₂, ◌∙◌, subst}
use mathlib.Core.List.{List, ◌∷◌}
use Prim.Native.Nat.{ℕ, zero, suc, ◌<◌}
use native.Mathlib.Omega.{arith}
use lib.IntN.{ℤ}
use lib.ListN.{length, get_or}
use lib.Seq.{ext_get_or}
use Rattle.standing.specs.Entries.{list_of}

pub length-list : (k : ℕ) (f : ℕ → ℤ) → length (list_of k f) ≡ k
unfolding list_of
length-list zero f = refl
length-list (suc k) f = ap suc (length-list k (λ i. f (suc i)))

pub at-list : (k : ℕ) (f : ℕ → ℤ) (d : ℤ) (i : ℕ) → i < k → get_or (list_of k f) i d ≡ f i
unfolding list_of
at-list zero f d i l = absurd (omega arith)
at-list (suc k) f d zero l = refl
at-list (suc k) f d (suc i) l = at-list k (λ i. f (suc i)) d i (omega arith)

pub list-is : (k : ℕ) (f : ℕ → ℤ) (d : ℤ) (l : List ℤ) → length l ≡ k → ((i : ℕ) → i < k → get_or l i d ≡ f i) → l ≡ list_of k f
list-is k f d l size same =
    ext_get_or d l (list_of k f) (size ∙ sym (length-list k f))
    (λ i b. let m : i < k = subst (λ (n : ℕ). i < n) size b in same i m ∙ sym (at-list k f d i m))

pub list_same : (k : ℕ) (f g : ℕ → ℤ) → ((i : ℕ) → i < k → f i ≡ g i) → list_of k f ≡ list_of k g
unfolding list_of
list_same zero f g h = refl
list_same (suc k) f g h = ap₂ ◌∷◌ (h 0 (omega arith)) (list_same k (λ i. f (suc i)) (λ i. g (suc i)) (λ i l. h (suc i) (omega arith)))

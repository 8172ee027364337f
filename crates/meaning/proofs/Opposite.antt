-- On whole numbers, not (x − y ≤ c) is y − x ≤ −c−1. Assumes nothing.
use mathlib.Core.Path.{◌≡◌, refl, sym, ap, ◌∙◌, subst}
use mathlib.Core.Bool.{Bool, true, false, not}
use mathlib.Core.Logic.{◌⊎◌, inl, inr}
use Prim.Native.Nat.{ℕ, zero, suc}
use lib.Dec.{T, T_not, leb, leb-suc-suc, leb-zero, leb-suc-zero}
use lib.IntN.{ℤ, pos, negsuc, neg_ℤ, pred_ℤ, ◌+ℤ◌, ◌-ℤ◌, neg_ℤ-+ℤ, neg_ℤ-neg_ℤ, +ℤ_comm}
use lib.Signed.{le_z}
use Rattle.meaning.specs.Problem.{Alternative, opposite, Timetable, satisfied}

leb-not : (m n : ℕ) → leb (suc m) n ≡ not (leb n m)
leb-not m zero = leb-suc-zero m ∙ ap not (sym (leb-zero m))
leb-not zero (suc n) = leb-suc-suc zero n ∙ leb-zero n ∙ ap not (sym (leb-suc-zero n))
leb-not (suc m) (suc n) = leb-suc-suc (suc m) n ∙ leb-not m n ∙ ap not (sym (leb-suc-suc n m))

turned_round : (z c : ℤ) → le_z (neg_ℤ z) (pred_ℤ (neg_ℤ c)) ≡ not (le_z z c)
turned_round (pos zero) (pos zero) = refl
turned_round (pos zero) (pos (suc c)) = ap not (sym (leb-zero (suc c)))
turned_round (pos (suc z)) (pos zero) = leb-zero z ∙ ap not (sym (leb-suc-zero z))
turned_round (pos (suc z)) (pos (suc c)) = leb-not c z ∙ ap not (sym (leb-suc-suc z c))
turned_round (pos zero) (negsuc c) = leb-zero c
turned_round (pos (suc z)) (negsuc c) = refl
turned_round (negsuc z) (pos zero) = refl
turned_round (negsuc z) (pos (suc c)) = refl
turned_round (negsuc z) (negsuc c) = leb-not z c

turned-about : (a b : ℤ) → b -ℤ a ≡ neg_ℤ (a -ℤ b)
turned-about a b = sym (neg_ℤ-+ℤ a (neg_ℤ b) ∙ ap (λ (z : ℤ). neg_ℤ a +ℤ z) (neg_ℤ-neg_ℤ b) ∙ +ℤ_comm (neg_ℤ a) b)

pub satisfied-opposite : (t : Timetable) (a : Alternative) → satisfied t (opposite a) ≡ not (satisfied t a)
unfolding satisfied opposite
satisfied-opposite t a =
    ap (λ (z : ℤ). le_z z (pred_ℤ (neg_ℤ a.c))) (turned-about (t a.x) (t a.y)) ∙ turned_round (t a.x -ℤ t a.y) a.c

decide : (b : Bool) → T b ⊎ T (not b)
decide true = inl tt
decide false = inr tt

-- a timetable satisfies an alternative or its opposite
pub split : (t : Timetable) (a : Alternative) → T (satisfied t a) ⊎ T (satisfied t (opposite a))
split t a = subst (λ (b : Bool). T (satisfied t a) ⊎ T b) (sym (satisfied-opposite t a)) (decide (satisfied t a))

-- and never both
pub not-both : (t : Timetable) (a : Alternative) → T (satisfied t a) → T (satisfied t (opposite a)) → ⊥
not-both t a h k = T_not (satisfied t a) (subst T (satisfied-opposite t a) k) h

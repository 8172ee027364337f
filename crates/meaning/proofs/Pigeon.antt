-- Among n + 1 numbers below n two are equal. Assumes nothing.
use Prim.Native.Nat.{ℕ, zero, suc, ◌≤◌, ◌<◌}
use mathlib.Core.Path.{◌≡◌, refl, sym, ◌∙◌}
use mathlib.Core.Logic.{◌⊎◌, inl, inr}
use native.Mathlib.Omega.{arith}
use native.Mathlib.Decide.{ℕ_discrete}

-- v in the place of a
choose : {A : Type 0} → Dec A → ℕ → ℕ → ℕ
choose (yes p) v x = v
choose (no p) v x = x

move : ℕ → ℕ → ℕ → ℕ
move a v x = choose (ℕ_discrete x a) v x

move-cases : (a v x : ℕ) → ((x ≡ a) × (move a v x ≡ v)) ⊎ ((x ≡ a → ⊥) × (move a v x ≡ x))
unfolding move choose
move-cases a v x = go (ℕ_discrete x a)
  where
    go : (d : Dec (x ≡ a)) → ((x ≡ a) × (choose d v x ≡ v)) ⊎ ((x ≡ a → ⊥) × (choose d v x ≡ x))
    go (yes p) = inl (p, refl)
    go (no p) = inr (p, refl)

pub pigeon : (n : ℕ) (z : ℕ → ℕ) → ((k : ℕ) → k ≤ n → z k < n) → ((i j : ℕ) → i < j → j ≤ n → z i ≡ z j → ⊥) → ⊥
pigeon zero z r d = omega (arith, r 0 (omega arith))
pigeon (suc n) z r d = pigeon n (λ k. move n (z (suc n)) (z k)) range apart
  where
    range : (k : ℕ) → k ≤ n → move n (z (suc n)) (z k) < n
    range k h = go (move-cases n (z (suc n)) (z k))
      where
        go : ((z k ≡ n) × (move n (z (suc n)) (z k) ≡ z (suc n))) ⊎ ((z k ≡ n → ⊥) × (move n (z (suc n)) (z k) ≡ z k)) → move n (z (suc n)) (z k) < n
        go (inl (p, e)) =
            let f : z (suc n) ≡ n → ⊥ = λ q. d k (suc n) (omega arith) (omega arith) (p ∙ sym q) in
            omega (arith, r (suc n) (omega arith), f)
        go (inr (p, e)) = omega (arith, r k (omega arith), p)

    apart : (i j : ℕ) → i < j → j ≤ n → move n (z (suc n)) (z i) ≡ move n (z (suc n)) (z j) → ⊥
    apart i j h k q = go (move-cases n (z (suc n)) (z i)) (move-cases n (z (suc n)) (z j))
      where
        go : ((z i ≡ n) × (move n (z (suc n)) (z i) ≡ z (suc n))) ⊎ ((z i ≡ n → ⊥) × (move n (z (suc n)) (z i) ≡ z i)) → ((z j ≡ n) × (move n (z (suc n)) (z j) ≡ z (suc n))) ⊎ ((z j ≡ n → ⊥) × (move n (z (suc n)) (z j) ≡ z j)) → ⊥
        go (inl (p, e)) (inl (p', e')) = d i j h (omega arith) (p ∙ sym p')
        go (inl (p, e)) (inr (p', e')) = d j (suc n) (omega arith) (omega arith) (sym e' ∙ sym q ∙ e)
        go (inr (p, e)) (inl (p', e')) = d i (suc n) (omega arith) (omega arith) (sym e ∙ q ∙ e')
        go (inr (p, e)) (inr (p', e')) = d i j h (omega arith) (sym e ∙ q ∙ e')

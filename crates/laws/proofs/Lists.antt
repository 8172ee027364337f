-- What is left of a list that is one value throughout, a part of a list, and a list that is written from its front. Assumes nothing.
use mathlib.Core.Path.{◌≡◌, sym, ◌∙◌, ap}
use mathlib.Core.List.{List, [], ◌∷◌}
use mathlib.Core.Logic.{by_cases}
use Prim.Native.Nat.{ℕ, zero, suc, ◌+◌, ◌-◌, ◌<◌}
use native.Mathlib.Omega.{arith}
use native.Mathlib.Decide.{ℕ_discrete}
use lib.ListN.{length, get_or, set, take, drop, replicate}
use lib.Seq.{take-nil, get_or-set_same, get_or-set_other}

pub drop-replicate : {A : Type 0} (n k : ℕ) (v : A) → drop n (replicate k v) ≡ replicate (k - n) v
drop-replicate zero k v = let q : k ≡ k - 0 = omega arith in ap (λ (j : ℕ). replicate j v) q
drop-replicate (suc n) zero v = let q : 0 ≡ 0 - suc n = omega arith in ap (λ (j : ℕ). replicate j v) q
drop-replicate (suc n) (suc k) v = let q : k - n ≡ suc k - suc n = omega arith in drop-replicate n k v ∙ ap (λ (j : ℕ). replicate j v) q

-- a part of a list, taken from either side first
pub drop-take : {A : Type 0} (i k : ℕ) (l : List A) → drop i (take k l) ≡ take (k - i) (drop i l)
drop-take zero k l = rw (let e : k - 0 ≡ k = omega arith in e)
drop-take (suc i) zero l = rw (let e : 0 - suc i ≡ 0 = omega arith in e)
drop-take (suc i) (suc k) [] = sym (take-nil (suc k - suc i))
drop-take (suc i) (suc k) (x ∷ l) = rw (let e : suc k - suc i ≡ k - i = omega arith in e) (drop-take i k l)

-- a list written from the front, place by place
pub front-more : {A : Type 0} (d : A) (f : ℕ → A) (t : List A) (v : ℕ) (x : A) → ((k : ℕ) → k < v → get_or t k d ≡ f k) → v < length t → x ≡ f v → (k : ℕ) → k < v + 1 → get_or (set t v x) k d ≡ f k
front-more d f t v x h l e k m =
    by_cases (ℕ_discrete k v) (λ q. rw q (get_or-set_same t v x d l ∙ e)) (λ q. get_or-set_other t v k x d q ∙ h k (omega arith))

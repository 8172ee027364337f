-- The triples one by one: the alternative that each is, and what the tests of events and bounds say of it. Assumes nothing.
use mathlib.Core.Path.{◌≡◌, refl, ap, ◌∙◌}
use mathlib.Core.List.{List, [], ◌∷◌}
use Prim.Native.Nat.{ℕ, zero, suc, ◌+◌, ◌*◌, ◌<◌, ◌≤◌}
use native.Mathlib.Nat.{not-suc-le-zero}
use native.Mathlib.Omega.{arith}
use lib.Dec.{T}
use lib.IntN.{ℤ, pos, nat_abs}
use lib.ListN.{length, get_or}
use Rattle.meaning.specs.Limits.{most_bound}
use Rattle.meaning.specs.Problem.{Alternative}
use Rattle.meaning.specs.Plain.{nowhere}
use Rattle.meaning.specs.Screen.{alternatives, events, bounds, are_events, is_bound}
use Rattle.meaning.proofs.Accepted.{Event, first-events, first-bound}

-- triple j of the list, as the alternative of a number
abbrev triple : ℕ → List ℤ → ℕ → Alternative
triple number ts j = record { no = number; x = nat_abs (get_or ts (j * 3) (pos 0)); y = nat_abs (get_or ts (j * 3 + 1) (pos 0)); c = get_or ts (j * 3 + 2) (pos 0) }

abbrev pub alternative_at : List ℤ → ℕ → Alternative
alternative_at ts j = triple j ts j

-- ---- the alternatives
numbered-at : (i j : ℕ) (ts : List ℤ) → j * 3 + 2 < length ts → get_or (alternatives i ts) j nowhere ≡ triple (i + j) ts j
unfolding alternatives
numbered-at i j [] h = absurd (not-suc-le-zero h)
numbered-at i j (x ∷ []) h = absurd (omega arith)
numbered-at i j (x ∷ (y ∷ [])) h = absurd (omega arith)
numbered-at i zero (x ∷ (y ∷ (c ∷ more))) h =
    let q : i ≡ i + 0 = omega arith in
    ap (λ (k : ℕ). triple k (x ∷ (y ∷ (c ∷ more))) 0) q
numbered-at i (suc j) (x ∷ (y ∷ (c ∷ more))) h =
    let p : suc i + j ≡ i + suc j = omega arith in
    let first : suc j * 3 ≡ suc (suc (suc (j * 3))) = omega arith in
    let second : suc j * 3 + 1 ≡ suc (suc (suc (j * 3 + 1))) = omega arith in
    let third : suc j * 3 + 2 ≡ suc (suc (suc (j * 3 + 2))) = omega arith in
    numbered-at (suc i) j more (omega arith) ∙ ap (λ (k : ℕ). triple k more j) p ∙ rw (third, second, first) refl

pub alternative-at : (j : ℕ) (ts : List ℤ) → j * 3 + 2 < length ts → get_or (alternatives 0 ts) j nowhere ≡ alternative_at ts j
alternative-at j ts h = let z : 0 + j ≡ j = omega arith in numbered-at 0 j ts h ∙ ap (λ (k : ℕ). triple k ts j) z

-- ---- what the tests say of each
pub events-at : (n : ℕ) (ts : List ℤ) → T (events (are_events n) ts) → (j : ℕ) → j * 3 + 2 < length ts → Event n (get_or ts (j * 3) (pos 0)) × Event n (get_or ts (j * 3 + 1) (pos 0))
unfolding events
events-at n [] t j h = absurd (not-suc-le-zero h)
events-at n (x ∷ []) t j h = absurd (omega arith)
events-at n (x ∷ (y ∷ [])) t j h = absurd (omega arith)
events-at n (x ∷ (y ∷ (c ∷ more))) t zero h = (first-events n x y c more t).0
events-at n (x ∷ (y ∷ (c ∷ more))) t (suc j) h =
    let first : suc j * 3 ≡ suc (suc (suc (j * 3))) = omega arith in
    let second : suc j * 3 + 1 ≡ suc (suc (suc (j * 3 + 1))) = omega arith in
    rw (second, first) (events-at n more (first-events n x y c more t).1 j (omega arith))

pub bounds-at : (ts : List ℤ) → T (bounds is_bound ts) → (j : ℕ) → j * 3 + 2 < length ts → nat_abs (get_or ts (j * 3 + 2) (pos 0)) ≤ most_bound
unfolding bounds
bounds-at [] t j h = absurd (not-suc-le-zero h)
bounds-at (x ∷ []) t j h = absurd (omega arith)
bounds-at (x ∷ (y ∷ [])) t j h = absurd (omega arith)
bounds-at (x ∷ (y ∷ (c ∷ more))) t zero h = (first-bound x y c more t).0
bounds-at (x ∷ (y ∷ (c ∷ more))) t (suc j) h =
    let third : suc j * 3 + 2 ≡ suc (suc (suc (j * 3 + 2))) = omega arith in
    rw third (bounds-at more (first-bound x y c more t).1 j (omega arith))

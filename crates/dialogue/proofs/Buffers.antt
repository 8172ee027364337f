-- Laws of the definitions of `Written`: a byte more, no room, and one text after another. Assumes nothing.
use Prim.Native.Nat.{ℕ, zero, suc, ◌+◌, ◌≤◌, ◌<◌}
use mathlib.Core.Path.{◌≡◌, refl, ap, ◌∙◌}
use mathlib.Core.List.{List, [], ◌∷◌, ◌++◌}
use native.Mathlib.Nat.{le_of_suc-le-suc}
use native.Mathlib.Omega.{arith}
use lib.ListN.{length, take, drop, set}
use lib.Seq.{take-append_seam}
use Rattle.dialogue.specs.Written.{written, written_to}

-- nothing to write
pub written_none : (s : List ℕ) (at : ℕ) → written s at [] ≡ s
unfolding written
written_none [] at = refl
written_none (x ∷ s) zero = refl
written_none (x ∷ s) (suc at) = ap (λ (l : List ℕ). x ∷ l) (written_none s at)

pub to_none : (s : List ℕ) (at : ℕ) → written_to s at [] ≡ at
unfolding written_to
to_none [] at = refl
to_none (x ∷ s) zero = refl
to_none (x ∷ s) (suc at) = ap suc (to_none s at)

-- no room
pub written-full : (s : List ℕ) (at : ℕ) (t : List ℕ) → length s ≤ at → written s at t ≡ s
unfolding written
written-full [] at t h = refl
written-full (x ∷ s) zero t h = absurd (omega arith)
written-full (x ∷ s) (suc at) t h = ap (λ (l : List ℕ). x ∷ l) (written-full s at t (omega arith))

pub to-full : (s : List ℕ) (at : ℕ) (t : List ℕ) → length s ≤ at → written_to s at t ≡ at
unfolding written_to
to-full [] at t h = refl
to-full (x ∷ s) zero t h = absurd (omega arith)
to-full (x ∷ s) (suc at) t h = ap suc (to-full s at t (omega arith))

-- one text after another is both as one
pub written_then : (s : List ℕ) (at : ℕ) (t u : List ℕ) → written (written s at t) (written_to s at t) u ≡ written s at (t ++ u)
unfolding written written_to
written_then [] at t u = refl
written_then (x ∷ s) zero [] u = refl
written_then (x ∷ s) zero (b ∷ t) u = ap (λ (l : List ℕ). b ∷ l) (written_then s zero t u)
written_then (x ∷ s) (suc at) t u = ap (λ (l : List ℕ). x ∷ l) (written_then s at t u)

pub to-then : (s : List ℕ) (at : ℕ) (t u : List ℕ) → written_to (written s at t) (written_to s at t) u ≡ written_to s at (t ++ u)
unfolding written written_to
to-then [] at t u = refl
to-then (x ∷ s) zero [] u = refl
to-then (x ∷ s) zero (b ∷ t) u = ap suc (to-then s zero t u)
to-then (x ∷ s) (suc at) t u = ap suc (to-then s at t u)

-- where there is room for all of it
pub written-fits : (s t : List ℕ) → length t ≤ length s → written s 0 t ≡ t ++ drop (length t) s
unfolding written
written-fits [] [] h = refl
written-fits [] (b ∷ t) h = absurd (omega arith)
written-fits (x ∷ s) [] h = refl
written-fits (x ∷ s) (b ∷ t) h = ap (λ (l : List ℕ). b ∷ l) (written-fits s t (le_of_suc-le-suc h))

to-fits : (s t : List ℕ) → length t ≤ length s → written_to s 0 t ≡ length t
unfolding written_to
to-fits [] [] h = refl
to-fits [] (b ∷ t) h = absurd (omega arith)
to-fits (x ∷ s) [] h = refl
to-fits (x ∷ s) (b ∷ t) h = ap suc (to-fits s t (le_of_suc-le-suc h))

-- and then it stands at the front of what a call left
pub put_front : {held : List ℕ} {to : ℕ} (s t : List ℕ) → length t ≤ length s → (held ≡ written s 0 t) × (to ≡ written_to s 0 t) → (to ≡ length t) × (take to held ≡ t)
put_front s t fits p =
    let to_is = p.1 ∙ to-fits s t fits in
    (to_is, rw (to_is, p.0 ∙ written-fits s t fits) (take-append_seam t (drop (length t) s)))

-- a byte, where there is room for it
pub written-byte : (s : List ℕ) (at x : ℕ) → at < length s → written s at (x ∷ []) ≡ set s at x
unfolding written
written-byte [] at x h = absurd (omega arith)
written-byte (y ∷ s) zero x h = ap (λ (l : List ℕ). x ∷ l) (written_none s 0)
written-byte (y ∷ s) (suc at) x h = ap (λ (l : List ℕ). y ∷ l) (written-byte s at x (omega arith))

pub to-byte : (s : List ℕ) (at x : ℕ) → at < length s → written_to s at (x ∷ []) ≡ at + 1
unfolding written_to
to-byte [] at x h = absurd (omega arith)
to-byte (y ∷ s) zero x h = ap suc (to_none s 0)
to-byte (y ∷ s) (suc at) x h = let e = to-byte s at x (omega arith) in omega arith

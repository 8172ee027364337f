-- A row as bytes, its numbers and then 255s: what a store of one number more makes of it, and its first. Assumes nothing.
use mathlib.Core.Path.{◌≡◌, refl, sym, ap, ◌∙◌}
use mathlib.Core.List.{List, [], ◌∷◌, ◌++◌}
use Prim.Native.Nat.{ℕ, suc, ◌-◌, ◌≤◌, ◌<◌}
use native.Mathlib.Omega.{arith}
use lib.ListN.{length, set, replicate, length-append, get_or-append}
use lib.Seq.{set_at, append_snoc}
use Rattle.meaning.specs.Limits.{blank_byte}
use Rattle.meaning.specs.Decision.{at}
use Rattle.meaning.specs.Listing.{padded}
use Rattle.meaning.proofs.Listing.{padded-is}

-- no numbers yet
pub padded-none : (w : ℕ) → replicate w blank_byte ≡ padded w []
padded-none w = let e : w - 0 ≡ w = omega arith in sym (padded-is w [] (omega arith) ∙ ap (λ (k : ℕ). replicate k blank_byte) e)

-- a store after the numbers makes them one more
pub padded-more : (w : ℕ) (l : List ℕ) (j : ℕ) → length l < w → set (padded w l) (length l) j ≡ padded w (l ++ (j ∷ []))
padded-more w l j h =
    let e : w - length l ≡ suc (w - length (l ++ (j ∷ []))) = omega (arith, length-append l (j ∷ [])) in
    let r : List ℕ = replicate (w - length (l ++ (j ∷ []))) blank_byte in
    rw (padded-is w l (omega arith), e) (set_at l blank_byte r j (length l) refl ∙ sym (append_snoc l j r))
    ∙ sym (padded-is w (l ++ (j ∷ [])) (omega (arith, length-append l (j ∷ []))))

-- the row starts with its first number
pub padded-first : (w : ℕ) (l row : List ℕ) → row ≡ padded w l → 0 < length l → length l ≤ w → at row 0 ≡ at l 0
padded-first w l row e h m = rw (e ∙ padded-is w l m) (get_or-append l (replicate (w - length l) blank_byte) 0 0 h)

-- two stores make a row of two numbers
pub padded-two : (w x y : ℕ) → 2 ≤ w → set (set (replicate w blank_byte) 0 x) 1 y ≡ padded w (x ∷ y ∷ [])
padded-two w x y h =
    ap (λ (r : List ℕ). set (set r 0 x) 1 y) (padded-none w)
    ∙ ap (λ (r : List ℕ). set r 1 y) (padded-more w [] x (omega arith))
    ∙ padded-more w (x ∷ []) y (omega arith)

-- What a value with the place after its word says, and a place that is looked for in a text. Assumes nothing.
use Prim.Native.Nat.{ℕ, ◌+◌, ◌-◌}
use mathlib.Core.Path.{◌≡◌, refl, sym, ap, ◌∙◌}
use mathlib.Core.Bool.{Bool, true, false, cond}
use mathlib.Core.List.{List, [], ◌∷◌}
use native.Mathlib.Omega.{arith}
use lib.ListN.{length, take, drop, length-drop}
use lib.Dec.{eqb, ltb}
use lib.Seq.{take_all}
use borrow.Author.Tests.{ltb-false}
use Rattle.std.specs.Prelude.{Option, None, Some, position, unwrap_or}
use Rattle.std.specs.List.{position_or_len}
use Rattle.std.proofs.lemmas.Option.{same_Some}
use Rattle.std.proofs.lemmas.List.Recursion.{is_position_or_len}
use Rattle.dialogue.specs.Words.{before, place_of, with_place}
use Rattle.dialogue.proofs.Spelling.{before-length}

module _ {A : Type 0} (place : ℕ) where
  -- a value that was read at a place was spelled, and the place is that after its word
  pub placed-some : (o : Option A) (v : A) (p : ℕ) → Some (v, p) ≡ with_place place o → record { spelled : o ≡ Some v; ends : place ≡ p }
  placed-some None v p e = cc
  placed-some (Some x) v p e =
      let q = sym (same_Some (v, p) (x, place) e) in
      record { spelled = ap (λ (t : A × ℕ). Some t.0) q; ends = ap (λ (t : A × ℕ). t.1) q }

  pub placed_none : (o : Option A) → None ≡ with_place place o → o ≡ None
  placed_none None e = cc
  placed_none (Some x) e = cc

-- as many bytes stand before a stop as its position says
before-position : (stop : ℕ) (l : List ℕ) → length (before stop l) ≡ position_or_len (λ b. eqb b stop) l
unfolding before
before-position stop l = is_position_or_len (λ (s : List ℕ). length (before stop s)) (λ b. eqb b stop) refl (λ b s. more (eqb b stop) b s) l
  where
    more : (t : Bool) (b : ℕ) (s : List ℕ) → length (cond t [] (b ∷ before stop s)) ≡ cond t 0 (1 + length (before stop s))
    more true b s = refl
    more false b s = omega arith

-- that position, or the length where there is none
place-first : (stop : ℕ) (l : List ℕ) → unwrap_or (position (λ b. eqb b stop) l) (length l) ≡ length (before stop l)
place-first stop l = by (ltb (position_or_len (λ b. eqb b stop) l) (length l)) refl
  where
    by : (t : Bool) → ltb (position_or_len (λ b. eqb b stop) l) (length l) ≡ t → unwrap_or (cond t (Some (position_or_len (λ b. eqb b stop) l)) None) (length l) ≡ length (before stop l)
    by true e = sym (before-position stop l)
    by false e = omega (arith, ltb-false (position_or_len (λ b. eqb b stop) l) (length l) e, before-position stop l, before-length stop l)

-- so the place of a stop is found in what remains of a text
pub place-position : (stop : ℕ) (s r : List ℕ) (at n : ℕ) (o : Option ℕ) → r ≡ take (length s - at) (drop at s) → o ≡ position (λ b. eqb b stop) r → n ≡ unwrap_or o (length r) → at + n ≡ place_of stop s at
place-position stop s r at n o e q p =
    ap (λ (k : ℕ). at + k) (p ∙ rw (q, e, take_all (length s - at) (drop at s) (omega (arith, length-drop at s))) (place-first stop (drop at s)))

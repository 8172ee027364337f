-- A closed walk of facts in naturals: the sum of the biased bounds against so many biases. Assumes nothing.
use mathlib.Core.Path.{◌≡◌, refl, sym, ap, ◌∙◌, subst}
use mathlib.Core.Bool.{Bool, true, false, cond, ◌&&◌, ◌||◌, and-false}
use mathlib.Core.Option.{Option, some, none}
use mathlib.Core.List.{List, [], ◌∷◌, map}
use Prim.Native.Nat.{ℕ, suc, ◌+◌, ◌-◌, ◌*◌, ◌<◌, ◌≤◌}
use native.Mathlib.Nat.{suc-mul, not-suc-le-zero}
use native.Mathlib.Numerals.{add-one}
use native.Mathlib.Omega.{arith}
use borrow.Author.Tests.{eqb-true, eq-eqb, ne_eqb, lt-ltb, le-ltb}
use lib.Dec.{eqb, ltb}
use Rattle.std.proofs.lemmas.Bool.Decides.{nat_tests}
use lib.IntN.{ℤ, pos, sub_ℕ, ◌+ℤ◌}
use lib.Signed.{lt_z}
use lib.ListN.{length, drop, drop_of_length-le}
use lib.Seq.{drop-cons}
use Rattle.laws.proofs.Differences.{Minus, below, above, minus, sub-add}
use Rattle.laws.proofs.Tests.{never}
use Rattle.meaning.specs.Problem.{Alternative}
use Rattle.meaning.specs.Reasons.{named, given, walk, loops}
use Rattle.problem.specs.declared.Problem.{Problem}
use Rattle.problem.specs.Arcs.{Net, bias, at, head, tail, bound, arc, Arc, Known}
use Rattle.problem.specs.Laid.{arcs}
use Rattle.std.specs.List.{list_any}

-- an equality test, the other way round
eqb_comm : (a b : ℕ) → eqb a b ≡ eqb b a
eqb_comm a b = grind (arith, nat_tests)

-- a number is one of the list
abbrev pub is_in : List ℕ → ℕ → Bool
is_in L b = list_any (λ j. eqb j b) L

-- the fact with a number is the arc of that number, where the number is a fact's
pub named-arc : (g : Net) (L : List ℕ) (b : ℕ) → named (map (arc g) L) b ≡ cond (is_in L b) (some (arc g b)) none
unfolding named
named-arc g [] b = refl
named-arc g (j ∷ more) b = rw (eqb_comm b j) (by (eqb j b) refl (named-arc g more b))
  where
    by : (t : Bool) → eqb j b ≡ t → named (map (arc g) more) b ≡ cond (is_in more b) (some (arc g b)) none → cond t (some (arc g j)) (named (map (arc g) more) b) ≡ cond (t || is_in more b) (some (arc g b)) none
    by true e h = ap (λ (j : ℕ). some (arc g j)) (eqb-true j b e)
    by false e h = h

-- a number that is one of the list stands somewhere in it
record Found (L : List ℕ) (b : ℕ) : Type 0 where
  place : ℕ
  below : place < length L
  is : at L place ≡ b

found : (L : List ℕ) (b : ℕ) → is_in L b ≡ true → Found L b
found [] b e = absurd (never (cc))
found (j ∷ more) b e = by (eqb j b) refl e (λ h. found more b h)
  where
    by : (t : Bool) → eqb j b ≡ t → (t || is_in more b) ≡ true → (is_in more b ≡ true → Found more b) → Found (j ∷ more) b
    by true q e f = record { place = 0; below = omega arith; is = eqb-true j b q }
    by false q e f = let w = f e in record { place = suc w.place; below = omega (arith, w.below); is = w.is }

pub known-arc : (p : Problem) (L : List ℕ) (b : ℕ) → Known (arcs p) p.n L → is_in L b ≡ true → Arc (arcs p) p.n b
known-arc p L b k e = let w = found L b e in subst (λ (j : ℕ). Arc (arcs p) p.n j) w.is (k.each w.place w.below)

-- a sum of n bounds, with one more
sum_more : (s b n : ℕ) → sub_ℕ s (n * bias) +ℤ sub_ℕ b bias ≡ sub_ℕ (s + b) (suc n * bias)
sum_more s b n = sub-add s (n * bias) b bias ∙ ap (sub_ℕ (s + b)) (sym (suc-mul n bias))

-- a difference is below 0
sum_below : (s n : ℕ) → lt_z (sub_ℕ s n) (pos 0) ≡ ltb s n
sum_below s n = go (minus s n)
  where
    go : {z : ℤ} → Minus s n z → lt_z z (pos 0) ≡ ltb s n
    go (below l) = sym (lt-ltb s n l)
    go (above l) = le-ltb (s - n) 0 (omega arith) ∙ sym (le-ltb s n l)

-- the walk from `here` back to `start`, with n numbers walked whose biased bounds sum to s
unfoldable pub walk_on : Net → List ℕ → ℕ → ℕ → ℕ → ℕ → List ℕ → Bool
walk_on g L start here n s [] = eqb here start && ltb s (n * bias)
walk_on g L start here n s (b ∷ bs) = is_in L b && (eqb (tail g b) here && walk_on g L start (head g b) (suc n) (s + bound g b) bs)

given-fact : (t : Bool) (a : Alternative) (f : Alternative → Bool) → given (cond t (some a) none) f ≡ (t && f a)
unfolding given
given-fact true a f = refl
given-fact false a f = refl

module _ (g : Net) (L : List ℕ) where
  walk-on : (start here n s : ℕ) (bs : List ℕ) → walk (map (arc g) L) start here (sub_ℕ s (n * bias)) bs ≡ walk_on g L start here n s bs
  unfolding walk walk_on
  walk-on start here n s [] = ap (λ (t : Bool). eqb here start && t) (sum_below s (n * bias))
  walk-on start here n s (b ∷ bs) =
      ap (λ (o : Option Alternative). given o (λ a. eqb a.y here && walk (map (arc g) L) start a.x (sub_ℕ s (n * bias) +ℤ a.c) bs)) (named-arc g L b)
      ∙ given-fact (is_in L b) (arc g b) (λ a. eqb a.y here && walk (map (arc g) L) start a.x (sub_ℕ s (n * bias) +ℤ a.c) bs)
      ∙ ap (λ (z : ℤ). is_in L b && (eqb (tail g b) here && walk (map (arc g) L) start (head g b) z bs)) (sum_more s (bound g b) n)
      ∙ ap (λ (t : Bool). is_in L b && (eqb (tail g b) here && t)) (walk-on start (head g b) (suc n) (s + bound g b) bs)

  loops-first : (b : ℕ) (bs : List ℕ) → loops (map (arc g) L) (b ∷ bs) ≡ (is_in L b && walk (map (arc g) L) (tail g b) (head g b) (sub_ℕ (bound g b) bias) bs)
  unfolding loops
  loops-first b bs =
      ap (λ (o : Option Alternative). given o (λ a. walk (map (arc g) L) a.y a.x a.c bs)) (named-arc g L b)
      ∙ given-fact (is_in L b) (arc g b) (λ a. walk (map (arc g) L) a.y a.x a.c bs)

  -- a cycle is a walk of its numbers from where the first one starts
  pub loops-on : (l : List ℕ) (j : ℕ) → 0 < length l → j ≡ at l 0 → loops (map (arc g) L) l ≡ walk_on g L (tail g j) (tail g j) 0 0 l
  unfolding walk_on
  loops-on l j h q = rw q (on l h)
    where
      on : (l : List ℕ) → 0 < length l → loops (map (arc g) L) l ≡ walk_on g L (tail g (at l 0)) (tail g (at l 0)) 0 0 l
      on [] h = absurd (not-suc-le-zero h)
      on (b ∷ bs) h =
          let e : bound g b ≡ 0 + bound g b = omega arith in
          loops-first b bs
          ∙ ap (λ (s : ℕ). is_in L b && walk (map (arc g) L) (tail g b) (head g b) (sub_ℕ s (1 * bias)) bs) e
          ∙ ap (λ (t : Bool). is_in L b && t) (walk-on (tail g b) (head g b) 1 (0 + bound g b) bs)
          ∙ ap (λ (t : Bool). is_in L b && (t && walk_on g L (tail g b) (head g b) 1 (0 + bound g b) bs)) (sym (eq-eqb (tail g b) (tail g b) refl))

  pub loops-none : (l : List ℕ) → length l ≡ 0 → loops (map (arc g) L) l ≡ false
  unfolding loops
  loops-none [] e = refl
  loops-none (b ∷ bs) e = absurd (omega arith)

  pub loops-foreign : (l : List ℕ) (b : ℕ) → 0 < length l → b ≡ at l 0 → is_in L b ≡ false → loops (map (arc g) L) l ≡ false
  loops-foreign [] b h q e = absurd (not-suc-le-zero h)
  loops-foreign (a ∷ bs) b h q e =
      loops-first a bs ∙ ap (λ (t : Bool). t && walk (map (arc g) L) (tail g a) (head g a) (sub_ℕ (bound g a) bias) bs) (ap (is_in L) (sym q) ∙ e)

  -- one turn of the walk
  module _ (l : List ℕ) (start here i s : ℕ) (h : i < length l) where
    pub on-foreign : is_in L (at l i) ≡ false → walk_on g L start here i s (drop i l) ≡ false
    unfolding walk_on
    on-foreign e = rw (drop-cons l i 0 h, e) refl

    module _ (j : ℕ) (q : j ≡ at l i) where
      pub on-apart : (tail g j ≡ here → ⊥) → walk_on g L start here i s (drop i l) ≡ false
      unfolding walk_on
      on-apart n = rw (drop-cons l i 0 h, ← q, ne_eqb (tail g j) here n) (and-false (is_in L j))

      pub on-more : is_in L (at l i) ≡ true → tail g j ≡ here → walk_on g L start here i s (drop i l) ≡ walk_on g L start (head g j) (i + 1) (s + bound g j) (drop (i + 1) l)
      unfolding walk_on
      on-more e n = rw (drop-cons l i 0 h, e, ← q, eq-eqb (tail g j) here n, add-one i) refl

  -- the end of the walk
  module _ (l : List ℕ) (start here i s : ℕ) (h : i ≡ length l) where
    pub on-open : (here ≡ start → ⊥) → walk_on g L start here i s (drop i l) ≡ false
    unfolding walk_on
    on-open n = let o : length l ≤ i = omega arith in rw (drop_of_length-le l o, ne_eqb here start n) refl

    pub on-closed : here ≡ start → walk_on g L start here i s (drop i l) ≡ ltb s (length l * bias)
    unfolding walk_on
    on-closed e = let o : length l ≤ i = omega arith in rw (drop_of_length-le l o, eq-eqb here start e, h) refl

-- Ways over facts, joined and parted, with what they rise and fall; and the closed walks of the reader as ways that end where they start and fall by more than they rise.
-- Assumes nothing.
use mathlib.Core.Path.{◌≡◌, refl, sym, ap, ◌∙◌, subst}
use mathlib.Core.Bool.{Bool, ◌&&◌}
use mathlib.Core.Option.{Option, some, none}
use mathlib.Core.List.{List, [], ◌∷◌, ◌++◌}
use Prim.Native.Nat.{ℕ, suc, ◌+◌, ◌-◌, ◌<◌}
use native.Mathlib.Omega.{arith}
use lib.Dec.{T, eqb, eqb→eq, eqb_refl, ltb→lt}
use lib.IntN.{ℤ, pos, negsuc, sub_ℕ, ◌+ℤ◌}
use lib.Signed.{lt_z}
use lib.ListN.{length}
use mir.Facts.{and_yes, yes_and}
use Rattle.laws.proofs.Differences.{above-is, below-is, Minus, below, above, minus, sub-add}
use Rattle.laws.proofs.Integers.{up, down}
use Rattle.meaning.specs.Problem.{Alternative}
use Rattle.meaning.specs.Reasons.{named, given, walk, loops}

-- ---- whole numbers as differences
-- a bound is what it rises less what it falls
up-down : (z : ℤ) → z ≡ sub_ℕ (up z) (down z)
up-down (pos k) = sym (above-is k 0 (omega arith) ∙ ap pos (omega arith))
up-down (negsuc k) = sym (below-is 0 (suc k) (omega arith) ∙ ap negsuc (omega arith))

negative-sub : (a b : ℕ) → T (lt_z (sub_ℕ a b) (pos 0)) → a < b
negative-sub a b t = go (minus a b) t
  where
    go : {z : ℤ} → Minus a b z → T (lt_z z (pos 0)) → a < b
    go (below l) t = l
    go (above l) t = let h : a - b < 0 = ltb→lt (a - b) 0 t in absurd (omega arith)

sub-negative : (a b : ℕ) → a < b → T (lt_z (sub_ℕ a b) (pos 0))
sub-negative a b h = go (minus a b)
  where
    go : {z : ℤ} → Minus a b z → T (lt_z z (pos 0))
    go (below l) = tt
    go (above l) = absurd (omega arith)

-- ---- ways
-- the facts with these numbers lead from y to x, each starting where the one before ends
abbrev pub Way : List Alternative → ℕ → List ℕ → ℕ → Type 0
Way fs y [] x = y ≡ x
Way fs y (b ∷ bs) x = (a : Alternative) × (named fs b ≡ some a) × (a.y ≡ y) × Way fs a.x bs x

unfoldable pub bound_of : Option Alternative → ℤ
bound_of none = pos 0
bound_of (some a) = a.c

-- what its bounds above 0 add up to, and how far those below 0 go down
unfoldable pub rise : List Alternative → List ℕ → ℕ
rise fs [] = 0
rise fs (b ∷ bs) = up (bound_of (named fs b)) + rise fs bs

unfoldable pub fall : List Alternative → List ℕ → ℕ
fall fs [] = 0
fall fs (b ∷ bs) = down (bound_of (named fs b)) + fall fs bs

-- a way that ends where it starts, of sum below 0
pub record Loop (fs : List Alternative) (l : List ℕ) : Type 0 where
  pub node : ℕ
  pub way : Way fs node l node
  pub below : rise fs l < fall fs l

module _ (fs : List Alternative) where
  pub rise-append : (a b : List ℕ) → rise fs (a ++ b) ≡ rise fs a + rise fs b
  unfolding rise
  rise-append [] b = omega arith
  rise-append (j ∷ a) b = omega (arith, rise-append a b)

  pub fall-append : (a b : List ℕ) → fall fs (a ++ b) ≡ fall fs a + fall fs b
  unfolding fall
  fall-append [] b = omega arith
  fall-append (j ∷ a) b = omega (arith, fall-append a b)

  pub way-join : (a b : List ℕ) (u v w : ℕ) → Way fs u a v → Way fs v b w → Way fs u (a ++ b) w
  way-join [] b u v w p q = subst (λ (x : ℕ). Way fs x b w) (sym p) q
  way-join (j ∷ a) b u v w (k, e, f, p) q = (k, e, f, way-join a b k.x v w p q)

  pub way-part : (a b : List ℕ) (u w : ℕ) → Way fs u (a ++ b) w → (v : ℕ) × Way fs u a v × Way fs v b w
  way-part [] b u w p = (u, refl, p)
  way-part (j ∷ a) b u w (k, e, f, p) =
      let (v, q, r) = way-part a b k.x w p in
      (v, (k, e, f, q), r)

  -- ---- the reader's closed walks
  pub given-some : (b : ℕ) (f : Alternative → Bool) → T (given (named fs b) f) → (a : Alternative) × (named fs b ≡ some a) × T (f a)
  unfolding given
  given-some b f t = go (named fs b) t
    where
      go : (o : Option Alternative) → T (given o f) → (a : Alternative) × (o ≡ some a) × T (f a)
      go none t = absurd t
      go (some a) t = (a, refl, t)

  some-given : (b : ℕ) (f : Alternative → Bool) (a : Alternative) → named fs b ≡ some a → T (f a) → T (given (named fs b) f)
  unfolding given
  some-given b f a e t = subst (λ (o : Option Alternative). T (given o f)) (sym e) t

  -- the sum so far with one arc more
  sum-on : (p q b : ℕ) (a : Alternative) → named fs b ≡ some a → sub_ℕ p q +ℤ a.c ≡ sub_ℕ (p + up (bound_of (named fs b))) (q + down (bound_of (named fs b)))
  unfolding bound_of
  sum-on p q b a e = rw e (ap (λ (z : ℤ). sub_ℕ p q +ℤ z) (up-down a.c) ∙ sub-add p q (up a.c) (down a.c))

  walk-way : (start : ℕ) (bs : List ℕ) (here p q : ℕ) → T (walk fs start here (sub_ℕ p q) bs) → Way fs here bs start × (p + rise fs bs < q + fall fs bs)
  unfolding walk rise fall
  walk-way start [] here p q t =
      let (e, h) = and_yes (eqb here start) (lt_z (sub_ℕ p q) (pos 0)) t in
      (eqb→eq here start e, omega (arith, negative-sub p q h))
  walk-way start (b ∷ bs) here p q t =
      let (a, e, s) = given-some b (λ a. eqb a.y here && walk fs start a.x (sub_ℕ p q +ℤ a.c) bs) t in
      let (f, w) = and_yes (eqb a.y here) (walk fs start a.x (sub_ℕ p q +ℤ a.c) bs) s in
      let (r, n) = walk-way start bs a.x (p + up (bound_of (named fs b))) (q + down (bound_of (named fs b))) (subst (λ (z : ℤ). T (walk fs start a.x z bs)) (sum-on p q b a e) w) in
      ((a, e, eqb→eq a.y here f, r), omega arith)

  way-walk : (start : ℕ) (bs : List ℕ) (here p q : ℕ) → Way fs here bs start → p + rise fs bs < q + fall fs bs → T (walk fs start here (sub_ℕ p q) bs)
  unfolding walk rise fall
  way-walk start [] here p q e h = yes_and (eqb here start) (lt_z (sub_ℕ p q) (pos 0)) (subst (λ (k : ℕ). T (eqb here k)) e (eqb_refl here)) (sub-negative p q (omega arith))
  way-walk start (b ∷ bs) here p q (a, e, f, r) h =
      some-given b (λ a. eqb a.y here && walk fs start a.x (sub_ℕ p q +ℤ a.c) bs) a e
      (yes_and (eqb a.y here) (walk fs start a.x (sub_ℕ p q +ℤ a.c) bs) (subst (λ (k : ℕ). T (eqb a.y k)) f (eqb_refl a.y))
      (subst (λ (z : ℤ). T (walk fs start a.x z bs)) (sym (sum-on p q b a e))
      (way-walk start bs a.x (p + up (bound_of (named fs b))) (q + down (bound_of (named fs b))) r (omega arith))))

  pub loops-loop : (l : List ℕ) → T (loops fs l) → Loop fs l
  unfolding loops rise fall bound_of
  loops-loop [] t = absurd t
  loops-loop (b ∷ bs) t =
      let (a, e, w) = given-some b (λ a. walk fs a.y a.x a.c bs) t in
      let (r, n) = walk-way a.y bs a.x (up a.c) (down a.c) (subst (λ (z : ℤ). T (walk fs a.y a.x z bs)) (up-down a.c) w) in
      record { node = a.y; way = (a, e, refl, r); below = rw e n }

  pub loop-loops : (l : List ℕ) → Loop fs l → T (loops fs l)
  unfolding loops rise fall bound_of
  loop-loops [] r = absurd (omega (arith, r.below))
  loop-loops (b ∷ bs) r = go r.way
    where
      go : Way fs r.node (b ∷ bs) r.node → T (loops fs (b ∷ bs))
      go (a, e, f, w) =
          some-given b (λ a. walk fs a.y a.x a.c bs) a e
          (subst (λ (z : ℤ). T (walk fs a.y a.x z bs)) (sym (up-down a.c))
          (way-walk a.y bs a.x (up a.c) (down a.c) (subst (λ (v : ℕ). Way fs a.x bs v) (sym f) w) (rw e at r.below)))

  -- it has an arc
  pub loop-some : (l : List ℕ) → Loop fs l → 0 < length l
  unfolding rise fall
  loop-some [] r = absurd (omega (arith, r.below))
  loop-some (b ∷ bs) r = omega arith

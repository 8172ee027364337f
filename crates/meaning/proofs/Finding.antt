-- The shortest reason as it is computed is the shortest reason: where the facts have a closed walk below 0 at all, `shortest` is the one of the fewest arcs that comes first. Assumes nothing.
use mathlib.Core.Path.{◌≡◌, refl, sym, ap, ◌∙◌, subst}
use mathlib.Core.Bool.{Bool, true, false, cond, ◌&&◌}
use mathlib.Core.Option.{Option, some, none, map}
use mathlib.Core.Logic.{inl, inr}
use mathlib.Core.List.{List, [], ◌∷◌}
use Prim.Native.Nat.{ℕ, zero, suc, ◌≤◌, ◌<◌, max}
use native.Mathlib.Omega.{arith}
use native.Mathlib.Decide.{dec_lt}
use lib.Dec.{T, eqb}
use lib.IntN.{ℤ, pos, ◌+ℤ◌}
use lib.Signed.{lt_z}
use lib.ListN.{length}
use borrow.Author.Tests.{eqb-true}
use Rattle.meaning.specs.Problem.{Alternative}
use Rattle.meaning.specs.Plain.{◌≺◌}
use Rattle.meaning.specs.Decision.{reach}
use Rattle.meaning.specs.Reasons.{named, given, walk, loops}
use Rattle.meaning.specs.Shortest.{Shortest, or_else, first_below, top, begun_by, led_back, closed_by, or_none, shortest}
use Rattle.meaning.proofs.Deciding.{reach-in}
use Rattle.meaning.proofs.Dictionary.{before-none}
use Rattle.meaning.proofs.Shapes.{few-arcs}

-- ---- the first number for which there is a list
-- f gives r for k, and nothing for any number before it
record FirstAt (f : ℕ → Option (List ℕ)) (k : ℕ) (r : List ℕ) : Type 0 where
  gives : f k ≡ some r
  before : (j : ℕ) → j < k → f j ≡ none

abbrev IsFirst : ℕ → (ℕ → Option (List ℕ)) → Option (List ℕ) → Type 0
IsFirst n f none = (j : ℕ) → j < n → f j ≡ none
IsFirst n f (some r) = (k : ℕ) × (k < n) × FirstAt f k r

first-below : (n : ℕ) (f : ℕ → Option (List ℕ)) → IsFirst n f (first_below n f)
unfolding first_below or_else
first-below zero f = λ j h. absurd (omega arith)
first-below (suc n) f = go (first_below n f) (f n) refl (first-below n f)
  where
    upto : (o : Option (List ℕ)) → f n ≡ o → ((j : ℕ) → j < n → f j ≡ none) → IsFirst (suc n) f o
    upto none e h = λ j l. last j l (dec_lt j n)
      where
        last : (j : ℕ) → j < suc n → Dec (j < n) → f j ≡ none
        last j l (yes m) = h j m
        last j l (no m) = let q : j ≡ n = omega (arith, m) in ap f q ∙ e
    upto (some r) e h = (n, omega arith, record { gives = e; before = h })

    go : (p o : Option (List ℕ)) → f n ≡ o → IsFirst n f p → IsFirst (suc n) f (or_else p o)
    go none o e h = upto o e h
    go (some r) o e (k, l, h) = (k, omega arith, h)

-- ---- the first list that passes a test
-- of so many numbers; or none passes
abbrev FirstOf : (List ℕ → Bool) → ℕ → Option (List ℕ) → Type 0
FirstOf p k none = (l : List ℕ) → length l ≡ k → T (p l) → ⊥
FirstOf p k (some r) = (length r ≡ k) × T (p r) × ((l : List ℕ) → length l ≡ k → T (p l) → l ≺ r → ⊥)

-- the same with number b before it, where q tests what comes after
abbrev Begun : (List ℕ → Bool) → ℕ → ℕ → Option (List ℕ) → Type 0
Begun q k b none = (l : List ℕ) → length l ≡ k → T (q l) → ⊥
Begun q k b (some r) = (m : List ℕ) × (r ≡ b ∷ m) × FirstOf q k (some m)

-- numbers tried in order: the first that can be led on, and how it is led on first
all-begun : (p : List ℕ → Bool) (k n : ℕ) (f : ℕ → Option (List ℕ)) → ((b : ℕ) → Begun (λ l. p (b ∷ l)) k b (f b)) → ((b : ℕ) (l : List ℕ) → T (p (b ∷ l)) → b < n) → FirstOf p (suc k) (first_below n f)
all-begun p k n f each below = go (first_below n f) (first-below n f)
  where
    nothing : (b : ℕ) → f b ≡ none → (l : List ℕ) → length l ≡ k → T (p (b ∷ l)) → ⊥
    nothing b e = subst (Begun (λ l. p (b ∷ l)) k b) e (each b)

    begins : (b : ℕ) (r : List ℕ) → FirstAt f b r → Begun (λ l. p (b ∷ l)) k b (some r) → FirstOf p (suc k) (some r)
    begins b r h (m, e, (size, passes, first)) = subst (λ (x : List ℕ). FirstOf p (suc k) (some x)) (sym e) (ap suc size, passes, before)
      where
        before : (l : List ℕ) → length l ≡ suc k → T (p l) → l ≺ (b ∷ m) → ⊥
        before [] q t c = c
        before (x ∷ l) q t (inl c) = nothing x (h.before x c) l (omega arith) t
        before (x ∷ l) q t (inr (c, d)) = first l (omega arith) (subst (λ (y : ℕ). T (p (y ∷ l))) c t) d

    go : (o : Option (List ℕ)) → IsFirst n f o → FirstOf p (suc k) o
    go none h = none_passes
      where
        none_passes : (l : List ℕ) → length l ≡ suc k → T (p l) → ⊥
        none_passes [] e t = absurd (omega arith)
        none_passes (b ∷ l) e t = nothing b (h b (below b l t)) l (omega arith) t
    go (some r) (b, l, h) = begins b r h (subst (Begun (λ l. p (b ∷ l)) k b) h.gives (each b))

-- a number that names no fact begins no list
begun-by : (k b : ℕ) (o : Option Alternative) (q : Alternative → List ℕ → Bool) (g : Alternative → Option (List ℕ)) → ((a : Alternative) → FirstOf (q a) k (g a)) → Begun (λ l. given o (λ a. q a l)) k b (begun_by b o g)
unfolding given begun_by
begun-by k b none q g h = λ l e t. t
begun-by k b (some a) q g h = go (g a) (h a)
  where
    go : (o : Option (List ℕ)) → FirstOf (q a) k o → Begun (q a) k b (map (λ l. b ∷ l) o)
    go none f = f
    go (some m) f = (m, refl, f)

guarded : (b : Bool) (q : List ℕ → Bool) (k : ℕ) (o : Option (List ℕ)) → FirstOf q k o → FirstOf (λ l. b && q l) k (cond b o none)
guarded true q k o h = h
guarded false q k o h = λ l e t. t

-- ---- closed walks
named-top : (fs : List Alternative) (b : ℕ) (f : Alternative → Bool) → T (given (named fs b) f) → b < top fs
unfolding named top given
named-top [] b f t = absurd t
named-top (x ∷ more) b f t = go (eqb b x.no) refl t (λ u. named-top more b f u)
  where
    go : (s : Bool) → eqb b x.no ≡ s → T (given (cond s (some x) (named more b)) f) → (T (given (named more b) f) → b < top more) → b < max (suc x.no) (top more)
    go true q t later = omega (arith, eqb-true b x.no q)
    go false q t later = omega (arith, later t)

module _ (fs : List Alternative) where
  led-first : (start k here : ℕ) (z : ℤ) → FirstOf (walk fs start here z) k (led_back fs start here z k)
  unfolding led_back walk
  led-first start zero here z = go (eqb here start && lt_z z (pos 0)) refl
    where
      go : (b : Bool) → eqb here start && lt_z z (pos 0) ≡ b → FirstOf (walk fs start here z) 0 (cond b (some []) none)
      go true e = (refl, subst T (sym e) tt, λ l q t c. before-none l c)
      go false e = none_left
        where
          none_left : (l : List ℕ) → length l ≡ 0 → T (walk fs start here z l) → ⊥
          none_left [] q t = subst T e t
          none_left (x ∷ l) q t = omega arith
  led-first start (suc k) here z =
      all-begun (walk fs start here z) k (top fs) _
      (λ b. begun-by k b (named fs b) (λ a l. eqb a.y here && walk fs start a.x (z +ℤ a.c) l) _
      (λ a. guarded (eqb a.y here) (walk fs start a.x (z +ℤ a.c)) k (led_back fs start a.x (z +ℤ a.c) k) (led-first start k a.x (z +ℤ a.c))))
      (λ b l t. named-top fs b _ t)

  closed-first : (k : ℕ) → FirstOf (loops fs) k (closed_by fs k)
  unfolding closed_by loops
  closed-first zero = no-arcs
    where
      no-arcs : (l : List ℕ) → length l ≡ 0 → T (loops fs l) → ⊥
      no-arcs [] e t = t
      no-arcs (x ∷ l) e t = omega arith
  closed-first (suc k) =
      all-begun (loops fs) k (top fs) _
      (λ b. begun-by k b (named fs b) (λ a. walk fs a.y a.x a.c) _ (λ a. led-first a.y k a.x a.c))
      (λ b l t. named-top fs b _ t)

  none_of : (k : ℕ) → closed_by fs k ≡ none → (l : List ℕ) → length l ≡ k → T (loops fs l) → ⊥
  none_of k e = subst (FirstOf (loops fs) k) e (closed-first k)

  -- k arcs, where fewer close nothing
  found : (k : ℕ) (r : List ℕ) → FirstAt (closed_by fs) k r → Shortest fs r
  found k r h =
      let (size, closes, first) = subst (FirstOf (loops fs) k) h.gives (closed-first k) in
      record { closed = closes; fewest = λ l t. most l t size (dec_lt (length l) k); first = λ l t e. first l (e ∙ size) t }
    where
      most : (l : List ℕ) → T (loops fs l) → length r ≡ k → Dec (length l < k) → length r ≤ length l
      most l t e (yes c) = absurd (none_of (length l) (h.before (length l) c) l refl t)
      most l t e (no c) = omega (arith, c)

  -- the first of the fewest arcs, where some closed walk has fewer than n
  least : (n : ℕ) (l : List ℕ) → T (loops fs l) → length l < n → (o : Option (List ℕ)) → IsFirst n (closed_by fs) o → (r : List ℕ) × (o ≡ some r) × Shortest fs r
  least n l t h none f = absurd (none_of (length l) (f (length l) h) l refl t)
  least n l t h (some r) (k, c, f) = (r, refl, found k r f)

  -- as soon as there is any closed walk below 0: the shortest has no more arcs than there are events, so `shortest` looks far enough
  pub shortest-found : (l : List ℕ) → T (loops fs l) → Shortest fs (shortest fs)
  unfolding shortest or_none
  shortest-found l t =
      let (r, _, s) = least (suc (length l)) l t (omega arith) (first_below (suc (length l)) (closed_by fs)) (first-below (suc (length l)) (closed_by fs)) in
      let few : length r < suc (reach fs) = omega (arith, few-arcs fs r s.closed s.fewest (reach fs) (reach-in fs)) in
      let (q, e, k) = least (suc (reach fs)) r s.closed few (first_below (suc (reach fs)) (closed_by fs)) (first-below (suc (reach fs)) (closed_by fs)) in
      subst (λ (o : Option (List ℕ)). Shortest fs (or_none o)) (sym e) k

  -- and where there is none, it names no number
  pub shortest-none : ((l : List ℕ) → T (loops fs l) → ⊥) → shortest fs ≡ []
  unfolding shortest or_none
  shortest-none h = go (first_below (suc (reach fs)) (closed_by fs)) (first-below (suc (reach fs)) (closed_by fs))
    where
      go : (o : Option (List ℕ)) → IsFirst (suc (reach fs)) (closed_by fs) o → or_none o ≡ []
      go none f = refl
      go (some r) (k, c, f) = absurd (h r (found k r f).closed)

-- What is computed of a grammar is what is meant: `ends`, `live` and `after` by what the grammar allows. Assumes nothing.
-- Each by recursion on the grammar; for `then` the byte is taken by the first part, or by the second where the first allows the empty text.
use mathlib.Core.Path.{◌≡◌, refl, sym, ap, ◌∙◌, subst}
use mathlib.Core.Logic.{inl, inr, ⊎_elim}
use mathlib.Core.Bool.{Bool, true, false, ◌||◌, cond}
use mathlib.Core.List.{List, [], ◌∷◌, ◌++◌, append_assoc}
use Prim.Native.Nat.{ℕ}
use native.Mathlib.Omega.{arith}
use borrow.Author.Tests.{eq-eqb}
use lib.Dec.{T}
use mir.Facts.{and_yes, yes_and, or_yes}
use Rattle.grammar.specs.Grammar.{Kind, exactly, space, line_end, in_comment, symbol_first, symbol_byte, digit, leading_digit, bytes, among, is_a, Grammar, none, empty, one, ◌then◌, ◌either◌, many, joined, All, Allows}
use Rattle.grammar.specs.Place.{ends, live, follow, is_none, choose, after}

-- ---- tests
or_left : (a b : Bool) → T a → T (a || b)
or_left true b t = tt
or_left false b t = absurd t

or_right : (a b : Bool) → T b → T (a || b)
or_right true b t = tt
or_right false b t = t

nil-cons : {b : ℕ} {s : List ℕ} → ◌≡◌ {A = List ℕ} [] (b ∷ s) → ⊥
nil-cons e = let z : ◌≡◌ {A = ℕ} 0 1 = cc in omega arith

head : {a b : ℕ} {s t : List ℕ} → ◌≡◌ {A = List ℕ} (a ∷ s) (b ∷ t) → a ≡ b
head e = cc

tail : {a b : ℕ} {s t : List ℕ} → ◌≡◌ {A = List ℕ} (a ∷ s) (b ∷ t) → s ≡ t
tail e = cc

-- ---- the empty text
pub ends-allows : (g : Grammar) → T (ends g) → Allows g []
unfolding ends joined
ends-allows none t = t
ends-allows empty t = refl
ends-allows (one r k) t = absurd t
ends-allows (g then h) t = ([], [], refl, ends-allows g (and_yes (ends g) (ends h) t).0, ends-allows h (and_yes (ends g) (ends h) t).1)
ends-allows (g either h) t = ⊎_elim (λ p. inl (ends-allows g p)) (λ p. inr (ends-allows h p)) (or_yes (ends g) (ends h) t)
ends-allows (many g) t = ([], refl, tt)

pub allows-ends : (g : Grammar) → Allows g [] → T (ends g)
unfolding ends
allows-ends none a = a
allows-ends empty a = tt
allows-ends (one r k) (b, t, e) = nil-cons e
allows-ends (g then h) ([], v, e, p, q) = yes_and (ends g) (ends h) (allows-ends g p) (allows-ends h (subst (Allows h) (sym e) q))
allows-ends (g then h) (x ∷ u, v, e, p, q) = absurd (nil-cons e)
allows-ends (g either h) (inl a) = or_left (ends g) (ends h) (allows-ends g a)
allows-ends (g either h) (inr a) = or_right (ends g) (ends h) (allows-ends h a)
allows-ends (many g) a = tt

-- ---- one after the other, and either, simplified
pub follow-then : (g h : Grammar) (s : List ℕ) → Allows (follow g h) s → Allows (g then h) s
unfolding follow
follow-then none h s a = absurd a
follow-then empty h s a = ([], s, refl, refl, a)
follow-then (one r k) h s a = a
follow-then (f then g) h s (u, v, e, p, q) =
    let (w, x, d, p', q') = follow-then g h v q in
    (u ++ w, x, e ∙ ap (λ (l : List ℕ). u ++ l) d ∙ sym (append_assoc u w x), (u, w, refl, p, p'), q')
follow-then (f either g) h s a = a
follow-then (many g) h s a = a

pub then-follow : (g h : Grammar) (s : List ℕ) → Allows (g then h) s → Allows (follow g h) s
unfolding follow
then-follow none h s (u, v, e, p, q) = p
then-follow empty h s (u, v, e, p, q) = subst (Allows h) (sym (e ∙ ap (λ (l : List ℕ). l ++ v) p)) q
then-follow (one r k) h s a = a
then-follow (f then g) h s (u, v, e, (w, x, d, p, p'), q) = (w, x ++ v, e ∙ ap (λ (l : List ℕ). l ++ v) d ∙ append_assoc w x v, p, then-follow g h (x ++ v) (x, v, refl, p', q))
then-follow (f either g) h s a = a
then-follow (many g) h s a = a

is-none : (g : Grammar) → T (is_none g) → (s : List ℕ) → Allows g s → ⊥
unfolding is_none
is-none none t s a = a
is-none empty t s a = t
is-none (one r k) t s a = t
is-none (g then h) t s a = t
is-none (g either h) t s a = t
is-none (many g) t s a = t

module _ (g h : Grammar) (s : List ℕ) where
  pub choose-either : Allows (choose g h) s → Allows (g either h) s
  unfolding choose
  choose-either = go (is_none g) (is_none h)
    where
      go : (x y : Bool) → Allows (cond x h (cond y g (g either h))) s → Allows (g either h) s
      go true y a = inr a
      go false true a = inl a
      go false false a = a

  pub either-choose : Allows (g either h) s → Allows (choose g h) s
  unfolding choose
  either-choose = go (is_none g) (is_none h) (is-none g) (is-none h)
    where
      go : (x y : Bool) → (T x → (s : List ℕ) → Allows g s → ⊥) → (T y → (s : List ℕ) → Allows h s → ⊥) → Allows (g either h) s → Allows (cond x h (cond y g (g either h))) s
      go true y m n (inl a) = absurd (m tt s a)
      go true y m n (inr a) = a
      go false true m n (inl a) = a
      go false true m n (inr a) = absurd (n tt s a)
      go false false m n a = a

-- ---- what may follow a byte
pub after-allows : (b : ℕ) (g : Grammar) (s : List ℕ) → Allows (after b g) s → Allows g (b ∷ s)
unfolding after joined
after-allows b none s a = a
after-allows b empty s a = absurd a
after-allows b (one r k) s a = go (is_a k b) refl a
  where
    go : (t : Bool) → is_a k b ≡ t → Allows (cond t empty none) s → Allows (one r k) (b ∷ s)
    go true e a = (b, subst T (sym e) tt, ap (λ (l : List ℕ). b ∷ l) a)
    go false e a = absurd a
after-allows b (g then h) s a = go (ends g) (ends-allows g) (after-allows b g) (after-allows b h) a
  where
    -- the byte is taken by g
    by-g : ((u : List ℕ) → Allows (after b g) u → Allows g (b ∷ u)) → Allows (follow (after b g) h) s → Allows (g then h) (b ∷ s)
    by-g f a = let (u, v, e, p, q) = follow-then (after b g) h s a in (b ∷ u, v, ap (λ (l : List ℕ). b ∷ l) e, f u p, q)

    go : (t : Bool) → (T t → Allows g []) → ((u : List ℕ) → Allows (after b g) u → Allows g (b ∷ u)) → ((u : List ℕ) → Allows (after b h) u → Allows h (b ∷ u))
        → Allows (cond t (choose (follow (after b g) h) (after b h)) (follow (after b g) h)) s → Allows (g then h) (b ∷ s)
    go true n f k a = ⊎_elim (by-g f) (λ p. ([], b ∷ s, refl, n tt, k s p)) (choose-either (follow (after b g) h) (after b h) s a)
    go false n f k a = by-g f a
after-allows b (g either h) s a = ⊎_elim (λ p. inl (after-allows b g s p)) (λ p. inr (after-allows b h s p)) (choose-either (after b g) (after b h) s a)
after-allows b (many g) s a = go (after-allows b g) (follow-then (after b g) (many g) s a)
  where
    go : ((u : List ℕ) → Allows (after b g) u → Allows g (b ∷ u)) → Allows (after b g then many g) s → Allows (many g) (b ∷ s)
    go f (u, v, e, p, (ws, d, all)) = ((b ∷ u) ∷ ws, ap (λ (l : List ℕ). b ∷ l) (e ∙ ap (λ (l : List ℕ). u ++ l) d), (f u p, all))

pub allows-after : (b : ℕ) (g : Grammar) (s : List ℕ) → Allows g (b ∷ s) → Allows (after b g) s
unfolding after joined
allows-after b none s a = a
allows-after b empty s a = nil-cons (sym a)
allows-after b (one r k) s (x, t, e) = go (is_a k b) (subst (λ (y : ℕ). T (is_a k y)) (sym (head e)) t) (tail e)
  where
    go : (t : Bool) → T t → s ≡ [] → Allows (cond t empty none) s
    go true t d = d
    go false t d = t
allows-after b (g then h) s (u, v, e, p, q) = go (ends g) (allows-ends g) (allows-after b g) (allows-after b h) u e p
  where
    by-g : (x : ℕ) (u : List ℕ) → ((u : List ℕ) → Allows g (b ∷ u) → Allows (after b g) u) → b ∷ s ≡ x ∷ u ++ v → Allows g (x ∷ u) → Allows (follow (after b g) h) s
    by-g x u f e p = then-follow (after b g) h s (u, v, tail e, f u (subst (λ (y : ℕ). Allows g (y ∷ u)) (sym (head e)) p), q)

    go : (t : Bool) → (Allows g [] → T t) → ((u : List ℕ) → Allows g (b ∷ u) → Allows (after b g) u) → ((u : List ℕ) → Allows h (b ∷ u) → Allows (after b h) u)
        → (u : List ℕ) → b ∷ s ≡ u ++ v → Allows g u → Allows (cond t (choose (follow (after b g) h) (after b h)) (follow (after b g) h)) s
    go true n f k [] e p = either-choose (follow (after b g) h) (after b h) s (inr (k s (subst (Allows h) (sym e) q)))
    go true n f k (x ∷ u) e p = either-choose (follow (after b g) h) (after b h) s (inl (by-g x u f e p))
    go false n f k [] e p = absurd (n p)
    go false n f k (x ∷ u) e p = by-g x u f e p
allows-after b (g either h) s (inl a) = either-choose (after b g) (after b h) s (inl (allows-after b g s a))
allows-after b (g either h) s (inr a) = either-choose (after b g) (after b h) s (inr (allows-after b h s a))
allows-after b (many g) s (ws, e, all) = then-follow (after b g) (many g) s (go (allows-after b g) ws e all)
  where
    go : ((u : List ℕ) → Allows g (b ∷ u) → Allows (after b g) u) → (ws : List (List ℕ)) → b ∷ s ≡ joined ws → All (Allows g) ws → Allows (after b g then many g) s
    go f [] e all = absurd (nil-cons (sym e))
    go f ([] ∷ ws) e all = go f ws e all.1
    go f ((x ∷ u) ∷ ws) e all = (u, joined ws, tail e, f u (subst (λ (y : ℕ). Allows g (y ∷ u)) (sym (head e)) all.0), (ws, refl, all.1))

-- ---- some text
witness : Kind → ℕ
witness (exactly b) = b
witness space = 32
witness line_end = 10
witness in_comment = 32
witness symbol_first = 97
witness symbol_byte = 97
witness digit = 48
witness leading_digit = 49

witnessed : (k : Kind) → T (is_a k (witness k))
unfolding is_a witness among bytes
witnessed (exactly b) = subst T (sym (eq-eqb b b refl)) tt
witnessed space = tt
witnessed line_end = tt
witnessed in_comment = tt
witnessed symbol_first = tt
witnessed symbol_byte = tt
witnessed digit = tt
witnessed leading_digit = tt

pub live-allows : (g : Grammar) → T (live g) → (s : List ℕ) × Allows g s
unfolding live joined
live-allows none t = absurd t
live-allows empty t = ([], refl)
live-allows (one r k) t = (witness k ∷ [], (witness k, witnessed k, refl))
live-allows (g then h) t =
    let (u, p) = live-allows g (and_yes (live g) (live h) t).0 in
    let (v, q) = live-allows h (and_yes (live g) (live h) t).1 in
    (u ++ v, (u, v, refl, p, q))
live-allows (g either h) t =
    ⊎_elim (λ x. let (u, p) = live-allows g x in (u, inl p)) (λ x. let (u, p) = live-allows h x in (u, inr p)) (or_yes (live g) (live h) t)
live-allows (many g) t = ([], ([], refl, tt))

pub allows-live : (g : Grammar) (s : List ℕ) → Allows g s → T (live g)
unfolding live
allows-live none s a = a
allows-live empty s a = tt
allows-live (one r k) s a = tt
allows-live (g then h) s (u, v, e, p, q) = yes_and (live g) (live h) (allows-live g u p) (allows-live h v q)
allows-live (g either h) s (inl a) = or_left (live g) (live h) (allows-live g s a)
allows-live (g either h) s (inr a) = or_right (live g) (live h) (allows-live h s a)
allows-live (many g) s a = tt

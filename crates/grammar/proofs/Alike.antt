-- Bytes that are alike to a grammar have the same derivative and role, and stay alike to what may follow: so a class needs one sample. Assumes nothing.
use mathlib.Core.Path.{◌≡◌, refl, ap, ap₂}
use mathlib.Core.Bool.{Bool, true, false, ◌&&◌, cond}
use mathlib.Core.List.{List, [], ◌∷◌, ◌++◌}
use Prim.Native.Nat.{ℕ, zero, suc}
use lib.Dec.{T}
use mir.Facts.{and_yes, yes_and}
use lib.ListN.{get_or}
use Rattle.grammar.specs.Grammar.{Role, is_a, Grammar, none, empty, one, ◌then◌, ◌either◌, many, script}
use Rattle.grammar.specs.Place.{ends, live, follow, is_none, choose, after, role_of}
use Rattle.grammar.specs.States.{grown, origins, states, grammar_of}

-- a byte of each class (tools/automaton samples)
unfoldable pub samples : List ℕ
samples = 0 ∷ 9 ∷ 10 ∷ 59 ∷ 40 ∷ 41 ∷ 48 ∷ 49 ∷ 33 ∷ 45 ∷ 60 ∷ 61 ∷ 68 ∷ 70 ∷ 73 ∷ 76 ∷ 81 ∷ 95 ∷ 97 ∷ 99 ∷ 100 ∷ 101 ∷ 102 ∷ 103 ∷ 104 ∷ 105 ∷ 107 ∷ 108 ∷ 110 ∷ 111 ∷ 114 ∷ 115 ∷ 116 ∷ 117 ∷ []

unfoldable pub sample_of : ℕ → ℕ
sample_of c = get_or samples c 0

-- two tests that say the same
unfoldable pub agree : Bool → Bool → Bool
agree true b = b
agree false true = false
agree false false = true

pub agreed : (a b : Bool) → T (agree a b) → a ≡ b
unfolding agree
agreed true true t = refl
agreed true false t = absurd t
agreed false true t = absurd t
agreed false false t = refl

-- the grammar names no kind that has one of the two bytes and not the other
unfoldable pub alike : ℕ → ℕ → Grammar → Bool
alike a b none = true
alike a b empty = true
alike a b (one r k) = agree (is_a k a) (is_a k b)
alike a b (g then h) = alike a b g && alike a b h
alike a b (g either h) = alike a b g && alike a b h
alike a b (many g) = alike a b g

module _ (a b : ℕ) where
  abbrev Alike : Grammar → Type 0
  Alike g = T (alike a b g)

  pub after-alike : (g : Grammar) → Alike g → after a g ≡ after b g
  unfolding after alike
  after-alike none t = refl
  after-alike empty t = refl
  after-alike (one r k) t = ap (λ (x : Bool). cond x empty none) (agreed (is_a k a) (is_a k b) t)
  after-alike (g then h) t =
      ap₂ (λ (x y : Grammar). cond (ends g) (choose (follow x h) y) (follow x h)) (after-alike g (and_yes (alike a b g) (alike a b h) t).0) (after-alike h (and_yes (alike a b g) (alike a b h) t).1)
  after-alike (g either h) t = ap₂ choose (after-alike g (and_yes (alike a b g) (alike a b h) t).0) (after-alike h (and_yes (alike a b g) (alike a b h) t).1)
  after-alike (many g) t = ap (λ (x : Grammar). follow x (many g)) (after-alike g t)

  -- of two grammars, by which of them takes the byte
  chosen : (g : Grammar) (r s : ℕ → Role) → Alike g → r a ≡ r b → s a ≡ s b → cond (live (after a g)) (r a) (s a) ≡ cond (live (after b g)) (r b) (s b)
  chosen g r s t p q = rw (after-alike g t, p, q)

  pub role-alike : (g : Grammar) → Alike g → role_of a g ≡ role_of b g
  unfolding role_of alike
  role-alike none t = refl
  role-alike empty t = refl
  role-alike (one r k) t = refl
  role-alike (g then h) t =
      let p = (and_yes (alike a b g) (alike a b h) t).0 in
      chosen g (λ (x : ℕ). role_of x g) (λ (x : ℕ). role_of x h) p (role-alike g p) (role-alike h (and_yes (alike a b g) (alike a b h) t).1)
  role-alike (g either h) t =
      let p = (and_yes (alike a b g) (alike a b h) t).0 in
      chosen g (λ (x : ℕ). role_of x g) (λ (x : ℕ). role_of x h) p (role-alike g p) (role-alike h (and_yes (alike a b g) (alike a b h) t).1)
  role-alike (many g) t = role-alike g t

  -- ---- they stay alike
  alike-follow : (g h : Grammar) → Alike g → Alike h → Alike (follow g h)
  unfolding follow alike
  alike-follow none h p q = tt
  alike-follow empty h p q = q
  alike-follow (one r k) h p q = yes_and (alike a b (one r k)) (alike a b h) p q
  alike-follow (f then g) h p q = yes_and (alike a b f) (alike a b (follow g h)) (and_yes (alike a b f) (alike a b g) p).0 (alike-follow g h (and_yes (alike a b f) (alike a b g) p).1 q)
  alike-follow (f either g) h p q = yes_and (alike a b (f either g)) (alike a b h) p q
  alike-follow (many g) h p q = yes_and (alike a b (many g)) (alike a b h) p q

  alike-choose : (g h : Grammar) → Alike g → Alike h → Alike (choose g h)
  unfolding choose alike
  alike-choose g h p q = go (is_none g) (is_none h)
    where
      go : (x y : Bool) → Alike (cond x h (cond y g (g either h)))
      go true y = q
      go false true = p
      go false false = yes_and (alike a b g) (alike a b h) p q

  alike-after : (c : ℕ) (g : Grammar) → Alike g → Alike (after c g)
  unfolding after alike
  alike-after c none t = tt
  alike-after c empty t = tt
  alike-after c (one r k) t = go (is_a k c)
    where
      go : (x : Bool) → Alike (cond x empty none)
      go true = tt
      go false = tt
  alike-after c (g then h) t =
      let p = (and_yes (alike a b g) (alike a b h) t).0 in
      let q = (and_yes (alike a b g) (alike a b h) t).1 in
      go (ends g) (alike-follow (after c g) h (alike-after c g p) q) (alike-after c h q)
    where
      go : (x : Bool) → Alike (follow (after c g) h) → Alike (after c h) → Alike (cond x (choose (follow (after c g) h) (after c h)) (follow (after c g) h))
      go true p q = alike-choose (follow (after c g) h) (after c h) p q
      go false p q = p
  alike-after c (g either h) t =
      alike-choose (after c g) (after c h) (alike-after c g (and_yes (alike a b g) (alike a b h) t).0) (alike-after c h (and_yes (alike a b g) (alike a b h) t).1)
  alike-after c (many g) t = alike-follow (after c g) (many g) (alike-after c g t) t

  -- ---- to every state
  abbrev AllAlike : List Grammar → Type 0
  AllAlike [] = Unit {0}
  AllAlike (g ∷ gs) = Alike g × AllAlike gs

  alike_at : (gs : List Grammar) (s : ℕ) → AllAlike gs → Alike (get_or gs s none)
  unfolding alike
  alike_at [] s p = tt
  alike_at (g ∷ gs) zero p = p.0
  alike_at (g ∷ gs) (suc s) p = alike_at gs s p.1

  alike-more : (gs : List Grammar) (g : Grammar) → AllAlike gs → Alike g → AllAlike (gs ++ (g ∷ []))
  alike-more [] g p q = (q, tt)
  alike-more (x ∷ gs) g p q = (p.0, alike-more gs g p.1 q)

  alike-grown : (os : List (ℕ × ℕ)) (gs : List Grammar) → AllAlike gs → AllAlike (grown os gs)
  unfolding grown
  alike-grown [] gs p = p
  alike-grown (o ∷ os) gs p =
      let g = after o.1 (get_or gs o.0 none) in
      alike-grown os (gs ++ (g ∷ [])) (alike-more gs g p (alike-after o.1 (get_or gs o.0 none) (alike_at gs o.0 p)))

  pub alike-states : (s : ℕ) → Alike script → Alike (grammar_of s)
  unfolding grammar_of states alike
  alike-states s t = alike_at states s (alike-grown origins (none ∷ script ∷ []) (tt, (t, tt)))

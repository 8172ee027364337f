-- "Refused with 20 and the byte place of the first byte at which no continuation is allowed (the text's length, if it breaks off)".
-- First as it is meant, then as it is computed; `proofs/Places` shows that they are the same. Definitions only.
use Rattle.std.specs.Prelude.{Bool, true, false, ◌&&◌, ◌||◌, cond, List, [], ◌∷◌, ◌++◌, ℕ, suc, ◌≤◌, ◌<◌, length, take}
use Rattle.std.proofs.Math.Option.{Option, none as fine, some as refused}
use Rattle.grammar.specs.Grammar.{Role, other, is_a, Grammar, none, empty, one, ◌then◌, ◌either◌, many, Allows}

-- ---- as it is meant
-- some further bytes make the text one that the grammar allows
abbrev pub GoesOn : Grammar → List ℕ → Type 0
GoesOn g s = (more : List ℕ) × Allows g (s ++ more)

-- the text is refused at the place i: it is not allowed, it goes on up to i, and no longer with the byte there, if there is one
pub record RefusedAt (g : Grammar) (s : List ℕ) (i : ℕ) : Type 0 where
  pub within : i ≤ length s
  pub not-allowed : Allows g s → ⊥
  pub goes_on : GoesOn g (take i s)
  pub no-further : i < length s → GoesOn g (take (suc i) s) → ⊥

-- ---- as it is computed
-- the empty text is allowed
unfoldable pub ends : Grammar → Bool
ends none = false
ends empty = true
ends (one r k) = false
ends (g then h) = ends g && ends h
ends (g either h) = ends g || ends h
ends (many g) = true

-- some text is allowed (every kind of byte has one)
unfoldable pub live : Grammar → Bool
live none = false
live empty = true
live (one r k) = true
live (g then h) = live g && live h
live (g either h) = live g || live h
live (many g) = true

-- one after the other, and either, with none and empty simplified away
unfoldable pub follow : Grammar → Grammar → Grammar
follow none h = none
follow empty h = h
follow (one r k) h = one r k then h
follow (f then g) h = f then follow g h
follow (f either g) h = (f either g) then h
follow (many g) h = many g then h

unfoldable pub is_none : Grammar → Bool
is_none none = true
is_none empty = false
is_none (one r k) = false
is_none (g then h) = false
is_none (g either h) = false
is_none (many g) = false

unfoldable pub choose : Grammar → Grammar → Grammar
choose g h = cond (is_none g) h (cond (is_none h) g (g either h))

-- what may follow the byte b: "the texts s such that b and then s is allowed"
unfoldable pub after : ℕ → Grammar → Grammar
after b none = none
after b empty = none
after b (one r k) = cond (is_a k b) empty none
after b (g then h) = cond (ends g) (choose (follow (after b g) h) (after b h)) (follow (after b g) h)
after b (g either h) = choose (after b g) (after b h)
after b (many g) = follow (after b g) (many g)

-- the place of the first byte at which no continuation is allowed, the text's first byte being at i; its end, if it breaks off; none, if it is allowed
unfoldable pub place_from : ℕ → Grammar → List ℕ → Option ℕ
place_from i g [] = cond (ends g) fine (refused i)
place_from i g (b ∷ s) = let r = place_from (suc i) (after b g) s in cond (live (after b g)) r (refused i)

-- the role of the byte b: of the place in the grammar that takes it
unfoldable pub role_of : ℕ → Grammar → Role
role_of b none = other
role_of b empty = other
role_of b (one r k) = r
role_of b (g then h) = cond (live (after b g)) (role_of b g) (role_of b h)
role_of b (g either h) = cond (live (after b g)) (role_of b g) (role_of b h)
role_of b (many g) = role_of b g

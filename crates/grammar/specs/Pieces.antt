-- The pieces of a text: its runs of bytes of one role, as far as it goes on. Definitions only.
use Rattle.std.specs.Prelude.{Bool, cond, List, [], ◌∷◌, ◌++◌, ℕ, suc, eqb}
use Rattle.grammar.specs.Grammar.{Role, role_no, Grammar}
use Rattle.grammar.specs.Place.{live, after, role_of}

-- a run of bytes of one role, and the place of its first byte
pub record Piece : Type 0 where
  pub role : Role
  pub from : ℕ
  pub word : List ℕ

abbrev pub same_role : Role → Role → Bool
same_role r s = eqb (role_no r) (role_no s)

-- bytes of the role r, from the place i on, before pieces: the first of these goes on with them if it has their role
unfoldable pub join_to : ℕ → Role → List ℕ → List Piece → List Piece
join_to i r w [] = record { role = r; from = i; word = w } ∷ []
join_to i r w (p ∷ ps) =
    cond (same_role r p.role) (record { role = r; from = i; word = w ++ p.word } ∷ ps) (record { role = r; from = i; word = w } ∷ p ∷ ps)

-- the pieces of a text as far as it goes on, its first byte at the place i
unfoldable pub pieces : ℕ → Grammar → List ℕ → List Piece
pieces i g [] = []
pieces i g (b ∷ s) = let r = join_to i (role_of b g) (b ∷ []) (pieces (suc i) (after b g) s) in cond (live (after b g)) r []

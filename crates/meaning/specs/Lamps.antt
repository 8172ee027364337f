-- The lamp panel: 01, "Lamps and sliders", its first paragraph. Definitions only.
use Rattle.std.specs.Prelude.{Bool, cond, List, [], ◌∷◌, ◌++◌, map, ℕ, zero, suc, ◌+◌, ◌-◌, ◌*◌, length, replicate}
use Rattle.meaning.specs.declared.Panel.{Panel}
use Rattle.meaning.specs.Limits.{most_clauses, most_alternatives}
use Rattle.meaning.specs.Problem.{Alternative, Clause}
use Rattle.meaning.specs.Decision.{sound}
use Rattle.meaning.specs.Screen.{Lent, clauses_of, problem_refusal}

-- "all alternatives of one-alternative clauses"
unfoldable pub forced : List Clause → List Alternative
forced [] = []
forced ([] ∷ cs) = forced cs
forced ((a ∷ []) ∷ cs) = a ∷ forced cs
forced ((a ∷ (b ∷ c)) ∷ cs) = forced cs

-- "lamp j is lit exactly when alternative j has a timetable together with" them: the lamps of a clause, in order
unfoldable pub lamps_of : List Alternative → Clause → List Bool
lamps_of fs c = map (λ a. sound (a ∷ fs)) c

-- the lamps of all clauses, in order
unfoldable pub joined : List (List Bool) → List Bool
joined [] = []
joined (b ∷ bs) = b ++ joined bs

-- a set as a number: bit j is lamp j
unfoldable pub bits : List Bool → ℕ
bits [] = 0
bits (b ∷ bs) = cond b 1 0 + 2 * bits bs

-- how many are lit
unfoldable pub ones : List Bool → ℕ
ones [] = 0
ones (b ∷ bs) = cond b 1 0 + ones bs

-- the place, counted from i, of the first lit one, "or 64"
unfoldable pub first_lit : ℕ → List Bool → ℕ
first_lit i [] = most_alternatives
first_lit i (b ∷ bs) = let r = first_lit (suc i) bs in cond b i r

unfoldable pub lit : List Clause → List (List Bool)
lit cs = map (lamps_of (forced cs)) cs

unfoldable pub panel_of : List (List Bool) → Panel
panel_of lamps =
    record {
      number = 0;
      lit = bits (joined lamps);
      total = ones (joined lamps);
      each = map ones lamps ++ replicate (most_clauses - length lamps) 0;
      first = first_lit 0 (joined lamps);
    }

-- "refused, it gives the number with no lamp lit, all counts 0 and 64"
unfoldable pub dark : ℕ → Panel
dark number = record { number = number; lit = 0; total = 0; each = replicate most_clauses 0; first = most_alternatives }

unfoldable pub shown_panel : List Clause → ℕ → Panel
shown_panel cs zero = panel_of (lit cs)
shown_panel cs (suc r) = dark (suc r)

unfoldable pub panel : Lent → Panel
panel l = shown_panel (clauses_of l) (problem_refusal l)

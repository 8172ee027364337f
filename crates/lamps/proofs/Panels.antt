-- The panel of a checked problem, field by field, and that of what is lent. Assumes nothing.
use mathlib.Core.Path.{◌≡◌, refl, sym, ap, ◌∙◌}
use mathlib.Core.List.{List, ◌++◌, map}
use Prim.Native.Nat.{ℕ, zero, suc, ◌-◌}
use lib.Count
use lib.ListN.{replicate}
use Rattle.meaning.specs.declared.Panel.{Panel}
use Rattle.meaning.specs.declared.Refusal.{Refusal}
use Rattle.meaning.specs.Refusal.{number_of}
use Rattle.meaning.specs.Limits.{most_clauses, most_alternatives}
use Rattle.meaning.specs.Problem.{Clause}
use Rattle.meaning.specs.Screen.{Lent, clauses_of, problem_refusal}
use Rattle.meaning.specs.Lamps.{bits, ones, lit, panel_of, dark, shown_panel, panel}
use Rattle.meaning.proofs.Refusals.{refused-some}
use Rattle.problem.specs.declared.Problem.{Problem}
use Rattle.problem.specs.Laid.{clauses_in}
use Rattle.lamps.specs.Masks.{lamps_in}
use Rattle.lamps.proofs.Sets.{count-is, first-is}
use Rattle.lamps.proofs.Lit.{lamps-few, lit-length}

-- the panel, field by field
pub panel-is : (p : Problem) (n : ℕ) (each : List ℕ) → n ≡ bits (lamps_in p) → each ≡ map ones (lit (clauses_in p)) ++ replicate (most_clauses - p.m) 0
    → ◌≡◌ {A = Panel} (record { number = 0; lit = n; total = Count.ones n; each = each; first = Count.count_trailing_zeros most_alternatives n }) (panel_of (lit (clauses_in p)))
unfolding panel_of
panel-is p n each e h = rw (e, h, count-is (lamps_in p), first-is (lamps_in p) (lamps-few p), lit-length p)

-- ---- the panel of what is lent
shown-dark : (cs : List Clause) (r : ℕ) → (r ≡ 0 → ⊥) → dark r ≡ shown_panel cs r
unfolding shown_panel
shown-dark cs zero h = absurd (h refl)
shown-dark cs (suc r) h = refl

pub panel-refused : (l : Lent) (e : Refusal) → number_of e ≡ problem_refusal l → dark (number_of e) ≡ panel l
unfolding panel
panel-refused l e q = shown-dark (clauses_of l) (number_of e) (refused-some e) ∙ ap (shown_panel (clauses_of l)) q

pub panel-accepted : (l : Lent) (r : ℕ) (cs : List Clause) → r ≡ problem_refusal l → r ≡ 0 → clauses_of l ≡ cs → panel_of (lit cs) ≡ panel l
unfolding panel shown_panel
panel-accepted l r cs e z h = ap (λ (c : List Clause). panel_of (lit c)) (sym h) ∙ ap (shown_panel (clauses_of l)) (sym z ∙ e)

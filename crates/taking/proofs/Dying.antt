-- Whether a clause of arcs is dead, arc by arc, all of them looked at. Assumes nothing.
use mathlib.Core.Path.{◌≡◌, sym, ap, ◌∙◌}
use mathlib.Core.Bool.{Bool, true, false, cond, not, ◌||◌}
use mathlib.Core.List.{List, ◌∷◌}
use Prim.Native.Nat.{ℕ, ◌+◌, ◌-◌, ◌<◌, ◌≤◌}
use Rattle.meaning.specs.Problem.{Alternative}
use Rattle.meaning.specs.Decision.{sound}
use Rattle.meaning.specs.Search.{dead}
use Rattle.problem.specs.Arcs.{Net, arc, arcs_from}
use Rattle.problem.proofs.Laying.{arcs-first, arcs-none}

module _ (fs : List Alternative) (g : Net) (j end : ℕ) where
  pub dead-found : j < end → true ≡ sound (arc g j ∷ fs) → false ≡ dead sound fs (arcs_from g j (end - j))
  unfolding dead
  dead-found h e = sym (ap (dead sound fs) (arcs-first g j end h) ∙ ap (λ (b : Bool). cond b false (dead sound fs (arcs_from g (j + 1) (end - (j + 1))))) (sym e))

  pub dead-step : j < end → false ≡ sound (arc g j ∷ fs) → dead sound fs (arcs_from g (j + 1) (end - (j + 1))) ≡ dead sound fs (arcs_from g j (end - j))
  unfolding dead
  dead-step h e = sym (ap (dead sound fs) (arcs-first g j end h) ∙ ap (λ (b : Bool). cond b false (dead sound fs (arcs_from g (j + 1) (end - (j + 1))))) (sym e))

  pub dead_end : end ≤ j → true ≡ dead sound fs (arcs_from g j (end - j))
  unfolding dead
  dead_end h = sym (ap (dead sound fs) (arcs-none g j end h))

  -- whether all arcs are dead, once those before j have been looked at: no where one was alive, and else what those from j on say
  module _ (all alive : Bool) (so_far : cond alive false (dead sound fs (arcs_from g j (end - j))) ≡ all) where
    -- one arc more: alive where it was, or where this arc has a timetable
    pub alive-more : j < end → (ok : Bool) → ok ≡ sound (arc g j ∷ fs) → cond (alive || ok) false (dead sound fs (arcs_from g (j + 1) (end - (j + 1)))) ≡ all
    alive-more l ok decides = go alive ok decides so_far
      where
        go : (b t : Bool) → t ≡ sound (arc g j ∷ fs) → cond b false (dead sound fs (arcs_from g j (end - j))) ≡ all → cond (b || t) false (dead sound fs (arcs_from g (j + 1) (end - (j + 1)))) ≡ all
        go true t e h = h
        go false true e h = dead-found l e ∙ h
        go false false e h = dead-step l e ∙ h

    pub alive-end : end ≤ j → not alive ≡ all
    alive-end l = go alive so_far
      where
        go : (b : Bool) → cond b false (dead sound fs (arcs_from g j (end - j))) ≡ all → not b ≡ all
        go true h = h
        go false h = dead_end l ∙ h

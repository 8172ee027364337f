-- What the panel's equation says in the papers' words. Assumes nothing.
use mathlib.Core.Path.{◌≡◌, refl, sym, ◌∙◌}
use mathlib.Core.Logic.{◌↔◌}
use mathlib.Core.Bool.{Bool, true, false, cond}
use mathlib.Core.List.{◌∷◌}
use Prim.Native.Nat.{ℕ, ◌/◌, ◌%◌, ◌^◌, ◌<◌}
use native.Mathlib.Omega.{arith}
use lib.Dec.{T}
use Rattle.meaning.specs.Problem.{Sound}
use Rattle.meaning.specs.Decision.{sound}
use Rattle.meaning.specs.Lamps.{forced, lit, panel_of}
use Rattle.meaning.proofs.Deciding.{sound-decides}
use Rattle.problem.specs.declared.Problem.{Problem}
use Rattle.problem.specs.Arcs.{at, arc}
use Rattle.problem.specs.Laid.{arcs, clauses_in}
use Rattle.lamps.proofs.Lit.{lamp-at}

one-true : (b : Bool) → T b ↔ (◌≡◌ {A = ℕ} (cond b 1 0) 1)
one-true true = (λ h. refl, λ h. tt)
one-true false = (λ h. absurd h, λ h. absurd (omega arith))

-- "lamp j is lit exactly when alternative j has a timetable together with all alternatives of one-alternative clauses"
pub lamp-lit : (p : Problem) → (j : ℕ) → j < at p.starts p.m
    → ((panel_of (lit (clauses_in p))).lit / 2 ^ j % 2 ≡ 1) ↔ Sound (arc (arcs p) j ∷ forced (clauses_in p))
unfolding panel_of
lamp-lit p j l =
    let fs = arc (arcs p) j ∷ forced (clauses_in p) in
    let bit = lamp-at p j l in (
      λ e. sound-decides.right fs ((one-true (sound fs)).1 (sym bit ∙ e)),
      λ h. bit ∙ (one-true (sound fs)).0 (sound-decides.whole fs h.0 h.1),
    )

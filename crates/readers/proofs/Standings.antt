-- The facts of a standing: what one more number in front of them makes of them. Assumes nothing.
use Rattle.std.proofs.Common.{◌≡◌, ℕ, ◌+◌, ◌≤◌, ◌∷◌, sym, subst, arith}
use Rattle.problem.specs.declared.Problem.{Problem}
use Rattle.problem.specs.Arcs.{Arc, Known}
use Rattle.problem.specs.Laid.{arcs}
use Rattle.problem.proofs.Knowing.{known_more}
use Rattle.readers.specs.declared.facts.Facts.{Facts}
use Rattle.readers.specs.Standing.{held, Decided}

module _ (p : Problem) where
  pub decided-later : (i j : ℕ) (f : Facts) → i ≤ j → Decided p i f → Decided p j f
  decided-later i j f h d = record { few = omega (arith, d.few); known = d.known }

  -- one more decided, by the arc with number v
  pub decided-more : (j v : ℕ) (f g : Facts) → Decided p j f → held g ≡ v ∷ held f → g.from + 1 ≡ f.from → Arc (arcs p) p.n v → Decided p (j + 1) g
  decided-more j v f g d e o a =
      record {
        few = omega (arith, d.few);
        known = subst (Known (arcs p) p.n) (sym e) (known_more (arcs p) p.n v (held f) a d.known);
      }

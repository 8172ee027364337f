-- The facts of a selection, tested: its latest timetable. Assumes nothing.
use mathlib.Core.Path.{◌≡◌, sym, ap, ◌∙◌, subst}
use mathlib.Core.Bool.{true, false}
use mathlib.Core.List.{List, map}
use Prim.Native.Nat.{ℕ, ◌+◌}
use native.Mathlib.Omega.{arith}
use lib.IntN.{pos, neg_ℤ}
use lib.ListN.{length, take, length-map}
use Rattle.std.specs.Prelude.{Some, None}
use Rattle.laws.proofs.Tests.{never}
use Rattle.meaning.specs.Plain.{chosen}
use Rattle.meaning.specs.Decision.{sound, least, latest_of}
use Rattle.problem.specs.declared.Edge.{Edge}
use Rattle.problem.specs.declared.Problem.{Problem}
use Rattle.problem.specs.Arcs.{arc, Known}
use Rattle.problem.specs.Laid.{arcs, clauses_in}
use Rattle.facts.specs.Tests.{places, Tests}
use Rattle.held.specs.declared.Facts.{Facts}
use Rattle.held.specs.Held.{held, facts_in, Ready}
use Rattle.search.specs.Standing.{chosen_facts, Inside}
use Rattle.search.proofs.Numbers.{chosen-facts, chosen-known}
use Rattle.search.proofs.Steps.{stands}

module _ (p : Problem) (picks : List ℕ) (inside : Inside p picks p.m) (long : length picks ≡ 32) (f : Facts) (is : held f ≡ chosen_facts p.starts 0 (take p.m picks)) where
  pub selected-facts : facts_in p f ≡ chosen (clauses_in p) (take p.m picks)
  selected-facts = ap (map (arc (arcs p))) is ∙ chosen-facts p 0 p.m (take p.m picks) (omega arith) (stands p picks p.m inside long)

  pub selected-ready : f.at + p.m ≡ places → Ready p f
  selected-ready h =
      record {
        free = omega (arith, p.laid.few);
        within = record { known = subst (Known (arcs p) p.n) (sym is) (chosen-known p 0 p.m (take p.m picks) (omega arith) (stands p picks p.m inside long)); few = omega (arith, p.laid.full, length-map p.arcs (λ (e : Edge). e.x)) };
      }

  module _ (sounds : sound (chosen (clauses_in p) (take p.m picks)) ≡ true) where
    -- a sound selection has a latest timetable
    pub selected-found : Tests (facts_in p f) p.n None → ⊥
    selected-found t = let e : false ≡ true = t.decides ∙ ap sound selected-facts ∙ sounds in never (cc)

    -- and a test of it gives that
    pub selected-day : (times : List ℕ) → Tests (facts_in p f) p.n (Some times) → map (λ (m : ℕ). neg_ℤ (pos m)) (take p.n times) ≡ latest_of p.n (chosen (clauses_in p) (take p.m picks))
    unfolding latest_of
    selected-day times t = ap (map (λ (m : ℕ). neg_ℤ (pos m))) (t.latest ∙ ap (least p.n) selected-facts)

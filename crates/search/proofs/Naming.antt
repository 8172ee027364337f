-- The facts that are put into a buffer to name their reasons are those of the standing, the newest first. Assumes nothing.
use mathlib.Core.Path.{◌≡◌, refl, sym, ap, ◌∙◌, subst}
use mathlib.Core.Bool.{true}
use mathlib.Core.List.{List, [], ◌∷◌, map}
use Prim.Native.Nat.{ℕ, zero, suc, ◌+◌, ◌-◌, ◌<◌, ◌≤◌}
use native.Mathlib.Omega.{arith}
use native.Mathlib.Numerals.{add-one}
use lib.ListN.{length, take, drop, length-map}
use Rattle.meaning.specs.Problem.{Alternative}
use Rattle.meaning.specs.Decision.{sound}
use Rattle.problem.specs.declared.Edge.{Edge}
use Rattle.problem.specs.declared.Problem.{Problem}
use Rattle.problem.specs.Arcs.{Net, at, arc, places, Known}
use Rattle.problem.specs.Laid.{arcs}
use Rattle.problem.proofs.Knowing.{known-none}
use Rattle.facts.specs.Tests.{Within}
use Rattle.held.specs.declared.Facts.{Facts}
use Rattle.held.specs.Held.{held, facts_in, Ready}
use Rattle.taking.specs.Taking.{passed}
use Rattle.search.specs.Standing.{standing_facts, Inside}
use Rattle.search.specs.Depths.{facts_at}
use Rattle.search.specs.Narrowing.{older}
use Rattle.search.proofs.Asides.{older-held}
use Rattle.search.proofs.Numbers.{standing-facts, standing-known}
use Rattle.search.proofs.Steps.{stands}
use Rattle.search.proofs.Deeper.{facts-deeper}

passed-long : (g : Net) (j i : ℕ) (fs : List Alternative) → i ≤ length (passed g j i fs)
unfolding passed
passed-long g j zero fs = omega arith
passed-long g j (suc i) fs = let h = passed-long g j i fs in omega arith

drop-passed : (g : Net) (j i : ℕ) (fs : List Alternative) → drop i (passed g j i fs) ≡ fs
unfolding passed
drop-passed g j zero fs = refl
drop-passed g j (suc i) fs = drop-passed g j i fs

map-drop : {A B : Type 0} (f : A → B) (i : ℕ) (l : List A) → map f (drop i l) ≡ drop i (map f l)
map-drop f zero l = refl
map-drop f (suc i) [] = refl
map-drop f (suc i) (x ∷ l) = map-drop f i l

module _ (p : Problem) (picks : List ℕ) (k : ℕ) (long : length picks ≡ 32) (inside : Inside p picks k) (f : Facts) (is : held f ≡ standing_facts p.starts 0 (take k picks) []) where
  pub facts-held : facts_in p f ≡ facts_at p picks k
  facts-held = ap (map (arc (arcs p))) is ∙ standing-facts p 0 p.m (take k picks) [] (omega arith) (stands p picks k inside long)

  pub within-held : Within (arcs p) (held f) p.n
  within-held =
      record {
        known = subst (Known (arcs p) p.n) (sym is) (standing-known p 0 p.m (take k picks) [] (omega arith) (stands p picks k inside long) (known-none (arcs p) p.n));
        few = omega (arith, p.laid.full, length-map p.arcs (λ (e : Edge). e.x));
      }

  pub ready : places ≤ f.at + at p.starts k → Ready p f
  ready h = record { free = omega (arith, p.laid.ends k inside.few, p.laid.last); within = within-held }

  -- the facts of the last clause come first, its alternative and the opposites before it; those after them are the facts of the standing above
  module _ (some : 0 < k) where
    deeper : arc (arcs p) (at p.starts (k - 1) + at picks (k - 1)) ∷ passed (arcs p) (at p.starts (k - 1)) (at picks (k - 1)) (facts_at p picks (k - 1)) ≡ facts_in p f
    deeper =
        ap (λ (i : ℕ). arc (arcs p) (at p.starts (k - 1) + at picks (k - 1)) ∷ passed (arcs p) (at p.starts (k - 1)) i (facts_at p picks (k - 1))) (let e : at picks (k - 1) ≡ at p.starts (k - 1) + at picks (k - 1) - at p.starts (k - 1) = omega arith in e)
        ∙ facts-deeper p picks (k - 1) long (omega (arith, inside.few)) (inside.each (k - 1) (omega arith))
        ∙ ap (facts_at p picks) (let e : k - 1 + 1 ≡ k = omega arith in e)
        ∙ sym facts-held

    pub newest-few : at picks (k - 1) + 1 ≤ length (held f)
    newest-few = omega (arith, ap length deeper, passed-long (arcs p) (at p.starts (k - 1)) (at picks (k - 1)) (facts_at p picks (k - 1)), length-map (held f) (arc (arcs p)))

    pub older-sound : sound (facts_at p picks (k - 1)) ≡ true → sound (map (arc (arcs p)) (drop (at picks (k - 1) + 1) (held f))) ≡ true
    older-sound e =
        ap sound (map-drop (arc (arcs p)) (at picks (k - 1) + 1) (held f) ∙ ap (drop (at picks (k - 1) + 1)) (sym deeper) ∙ past-newest (at picks (k - 1)))
        ∙ e
      where
        past-newest : (i : ℕ) → drop (i + 1) (arc (arcs p) (at p.starts (k - 1) + at picks (k - 1)) ∷ passed (arcs p) (at p.starts (k - 1)) i (facts_at p picks (k - 1))) ≡ facts_at p picks (k - 1)
        past-newest i = ap (λ (d : ℕ). drop d (arc (arcs p) (at p.starts (k - 1) + at picks (k - 1)) ∷ passed (arcs p) (at p.starts (k - 1)) i (facts_at p picks (k - 1)))) (add-one i) ∙ drop-passed (arcs p) (at p.starts (k - 1)) i (facts_at p picks (k - 1))

    -- so all but the newest are those of the standing above and the opposites
    pub older-passed : map (arc (arcs p)) (older f) ≡ passed (arcs p) (at p.starts (k - 1)) (at picks (k - 1)) (facts_at p picks (k - 1))
    older-passed = ap (map (arc (arcs p))) (older-held f) ∙ map-drop (arc (arcs p)) 1 (held f) ∙ ap (drop 1) (sym deeper)

-- What each way of a step makes of the place, the reasons and the tables. Assumes nothing.
use mathlib.Core.Path.{◌≡◌, refl, sym, ap, ◌∙◌, subst}
use mathlib.Core.Bool.{true, false}
use mathlib.Core.List.{List, [], ◌∷◌, map}
use Prim.Native.Nat.{ℕ, suc, ◌+◌, ◌-◌, ◌<◌, ◌≤◌}
use native.Mathlib.Omega.{arith}
use lib.ListN.{length, set, length-map}
use Rattle.std.proofs.Common.{Some, None, ControlFlow, Continue, Break}
use Rattle.meaning.specs.Limits.{onward_mark, dead_mark}
use Rattle.meaning.specs.Problem.{Alternative}
use Rattle.meaning.specs.Plain.{product}
use Rattle.meaning.specs.Decision.{sound}
use Rattle.meaning.specs.Search.{past, Row, mark, cycle, dead}
use Rattle.meaning.proofs.Unsound.{dead-at}
use Rattle.problem.specs.declared.Problem.{Problem}
use Rattle.problem.specs.Arcs.{at}
use Rattle.problem.specs.Laid.{arcs, size_of, clause_of, clauses_from, clauses_in}
use Rattle.problem.proofs.Laying.{arcs-length, clause-at, size-most}
use Rattle.search.specs.declared.Place.{Place}
use Rattle.search.specs.declared.End.{End}
use Rattle.search.specs.declared.End.TheVariants.{Plan, Stop}
use Rattle.search.specs.Standing.{Inside}
use Rattle.search.specs.Listing.{Keeps}
use Rattle.search.specs.Steps.{positions, Fine, Steps, Leaves}
use Rattle.search.specs.Depths.{facts_at, Depths, Stacked, DeadFrom}
use Rattle.search.proofs.Steps.{counted-on, closes, unsound-is, stops-is, found-is, dead-is, opens}
use Rattle.search.proofs.Tables.{depths-next}

-- the clause that is found dead is dead
pub found-dead : (p : Problem) (fs : List Alternative) (k d : ℕ) → DeadFrom p fs k (Some d) → dead sound fs (clause_of p d) ≡ true
found-dead p fs k d h =
    sym (ap (dead sound fs) (clause-at p k (p.m - k) (d - k) (omega (arith, h.some-dead)) ∙ ap (clause_of p) (let e : k + (d - k) ≡ d = omega (arith, h.some-dead) in e)))
    ∙ dead-at sound fs (clauses_from p k (p.m - k)) (d - k) h.some-dead.2

-- the tables after a standing that is closed: none has to be written
pub leaves-stacked : (w : ℕ) (p : Problem) (s : Place) (r : ControlFlow End Place) (days : List (List (List ℕ))) → length s.standing.picks ≡ 32 → Inside p s.standing.picks s.standing.k → Leaves p s r → Depths w p s.standing.picks s.standing.k days → Stacked w p r days
leaves-stacked w p s (Continue t) days long inside (c, n, i, less, wide) depths =
    depths-next w p s.standing.picks t.standing.picks s.standing.k t.standing.k days long wide (omega (arith, p.laid.few, inside.few)) (omega (arith, p.laid.few, i.few)) n depths
leaves-stacked w p s (Break e) days long inside leaves depths = depths.roomy

-- ---- the ways of a step
module _ (p : Problem) (a : ℕ) (s : Place) (long : length s.standing.picks ≡ 32) (fine : Fine p a s) (entry : List ℕ) where
  pub steps-unsound : (exit : List ℕ) (w : ControlFlow End Place) → sound (facts_at p s.standing.picks s.standing.k) ≡ false → Keeps entry exit s.rows (cycle (facts_at p s.standing.picks s.standing.k) ∷ []) → length exit ≡ length entry → Leaves p (counted-on s s.visits (s.rows + 1)) w → Steps p a s entry w exit
  steps-unsound exit w e keeps sized leaves =
      record {
        sized = sized;
        means = λ o here. closes p a s entry exit w s.visits (product (past (clauses_in p) (positions s))) (cycle (facts_at p s.standing.picks s.standing.k) ∷ []) fine leaves fine.spent (omega arith) (omega arith) (unsound-is p a s long fine e) keeps sized o here;
      }

  pub steps-stop : sound (facts_at p s.standing.picks s.standing.k) ≡ true → a ≤ s.visits → Steps p a s entry (Break (Stop s)) entry
  steps-stop e l = record { sized = refl; means = λ o here. stops-is p a s long fine e (omega (arith, fine.spent)) o entry here }

  pub steps-found : sound (facts_at p s.standing.picks s.standing.k) ≡ true → s.visits < a → s.standing.k ≡ p.m → Steps p a s entry (Break (Plan (counted-on s (s.visits + 1) s.rows))) entry
  steps-found e l k = record { sized = refl; means = λ o here. found-is p a s long fine e l k o entry here }

  pub steps-dead : (d rows : ℕ) (exit : List ℕ) (w : ControlFlow End Place) → sound (facts_at p s.standing.picks s.standing.k) ≡ true → s.visits < a → DeadFrom p (facts_at p s.standing.picks s.standing.k) s.standing.k (Some d) → Keeps entry exit s.rows (mark (dead_mark + d) ∷ map (λ x. cycle (x ∷ facts_at p s.standing.picks s.standing.k)) (clause_of p d)) → length exit ≡ length entry → rows ≡ s.rows + 1 + size_of p d → Leaves p (counted-on s (s.visits + 1) rows) w → Steps p a s entry w exit
  steps-dead d rows exit w e h lowest keeps sized is leaves =
      record {
        sized = sized;
        means = λ o here. closes p a s entry exit w (s.visits + 1) (product (past (clauses_in p) (positions s))) written fine (subst (λ (r : ℕ). Leaves p (counted-on s (s.visits + 1) r) w) (is ∙ omega (arith, many)) leaves) (omega arith) (omega arith) (omega (arith, many, size-most p d lowest.some-dead.1)) (dead-is p a s long fine d e h lowest.some-dead.0 lowest.some-dead.1 lowest.some-dead.2) keeps sized o here;
      }
    where
      written : List Row
      written = mark (dead_mark + d) ∷ map (λ x. cycle (x ∷ facts_at p s.standing.picks s.standing.k)) (clause_of p d)

      many : length written ≡ suc (size_of p d)
      many = ap suc (length-map (clause_of p d) (λ x. cycle (x ∷ facts_at p s.standing.picks s.standing.k)) ∙ arcs-length (arcs p) (at p.starts d) (size_of p d))

  pub steps-open : (exit : List ℕ) → sound (facts_at p s.standing.picks s.standing.k) ≡ true → s.visits < a → s.standing.k < p.m → DeadFrom p (facts_at p s.standing.picks s.standing.k) s.standing.k None → Keeps entry exit s.rows (mark onward_mark ∷ []) → length exit ≡ length entry → Steps p a s entry (Continue (record { standing = record { picks = set s.standing.picks s.standing.k 0; k = s.standing.k + 1 }; visits = s.visits + 1; rows = s.rows + 1 })) exit
  steps-open exit e h l lowest keeps sized =
      record { sized = sized; means = λ o here. opens p a s long fine entry exit e h l (lowest.none-dead refl) keeps sized o here }

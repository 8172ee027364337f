-- `listing::put_unsound` meets its contract: the newest facts of the buffer are those of the last clause, and the others are those of the standing above. Assumes nothing.
use mathlib.Core.Path.{◌≡◌, refl, sym, ap, ◌∙◌, subst}
use mathlib.Core.Bool.{true}
use mathlib.Core.List.{List, [], ◌∷◌, map}
use Prim.Native.Nat.{ℕ, ◌+◌, ◌-◌, ◌≤◌}
use native.Mathlib.Omega.{arith}
use borrow.Author.Rules.{rules}
use borrow.Author.Tests.{tests}
use lib.ListN.{length, drop, length-drop}
use Rattle.meaning.specs.Limits.{row_bytes}
use Rattle.meaning.specs.Problem.{Alternative}
use Rattle.meaning.specs.Decision.{sound}
use Rattle.meaning.specs.Search.{cycle}
use Rattle.meaning.specs.Listing.{row_of}
use Rattle.problem.specs.declared.Problem.{Problem}
use Rattle.problem.specs.Arcs.{at, arc}
use Rattle.problem.specs.Laid.{arcs}
use Rattle.held.specs.declared.Facts.{Facts}
use Rattle.held.specs.Held.{held, facts_in}
use Rattle.taking.specs.Tables.{IsDay, table_at}
use Rattle.taking.proofs.Taking.{table-small}
use Rattle.search.specs.Listing.{put_row, Keeps}
use Rattle.search.specs.Depths.{facts_at}
use Rattle.search.proofs.Keeping.{keeps-row, keeps-over, row-put}
use Rattle.search.proofs.Naming.{facts-held, within-held, newest-few, older-sound, older-passed}
use Rattle.search.proofs.Tables.{depths-held, depths-sound, depths-beside, arcs-taken, passed-day}
use Rattle.search.proofs.listing.put_unsound.Goals as goal

-- the row of the facts that were put is the standing's
row-kept : (p : Problem) (picks : List ℕ) (k : ℕ) (f : Facts) → facts_in p f ≡ facts_at p picks k → (old new : List ℕ) (rows : ℕ) → new ≡ put_row old rows (row_of row_bytes (cycle (facts_in p f))) → Keeps old new rows (cycle (facts_at p picks k) ∷ []) × (length new ≡ length old)
row-kept p picks k f facts old new rows e =
    let put : new ≡ put_row old rows (row_of row_bytes (cycle (facts_at p picks k))) = e ∙ ap (λ (fs : List Alternative). put_row old rows (row_of row_bytes (cycle fs))) facts in
    rw put (keeps-row old rows (cycle (facts_at p picks k)), row-put old rows (cycle (facts_at p picks k)))

pub passes_all-requires : goal.passes_all-requires
passes_all-requires g c =
    let p = c.args.p.now in
    let s = c.args.s in
    let inside = c.requires.0 in
    let depths = c.requires.2 in
    let (all, row) = table-small g.row.W depths.roomy.few in (
      all,
      (
        row,
        (
          depths.roomy.few,
          omega (arith, depths.roomy.room, inside.few),
          omega (arith, depths.roomy.room, inside.few),
          depths.roomy.tall,
          omega arith,
          arcs-taken p s.picks s.k g.row.W _ c.requires.1 inside depths.roomy.wide (omega (arith, c.from-first.ensures, c.from-pick.ensures)),
          depths-held g.row.W p s.picks s.k c.args.days.now depths (s.k - 1) (omega (arith, c.requires.1)),
        ),
      ),
    )

pub put_closing-requires : goal.put_closing-requires
put_closing-requires g c =
    let p = c.args.p.now in
    let s = c.args.s in
    let f = c.facts_of-f.result in
    let named = c.facts_of-f.ensures.0 in
    let depths = c.requires.2 in
    let (all, row) = table-small g.row.W depths.roomy.few in
    let older = older-passed p s.picks s.k (search rules) c.requires.0 f named c.requires.1 in
    let day = passed-day g.row.W p s.picks s.k c.from-first.result (c.from-first.result + c.from-pick.result) c.args.days.now (table_at c.passes_all.new.days c.in-Some.base) c.requires.1 c.from-first.ensures (ap (λ (i : ℕ). c.from-first.result + i) c.from-pick.ensures) depths (c.passes_all.ensures.day c.in-Some.base c.in-Some.is) in (
      all,
      (
        row,
        (
          within-held p s.picks s.k (search rules) c.requires.0 f named,
          omega (arith, newest-few p s.picks s.k (search rules) c.requires.0 f named c.requires.1, length-drop f.at f.buffer, f.fits),
          ap sound (facts-held p s.picks s.k (search rules) c.requires.0 f named) ∙ c.requires.3,
          depths.roomy.wide,
          depths.roomy.few,
          subst (λ (fs : List Alternative). IsDay g.row.W fs (table_at c.passes_all.new.days c.in-Some.base)) (sym older) day,
          c.requires.4,
        ),
      ),
    )

pub put_reason-requires : goal.put_reason-requires
put_reason-requires g c =
    let p = c.args.p.now in
    let s = c.args.s in
    let f = c.facts_of-f.result in
    let named = c.facts_of-f.ensures.0 in
    let news : at s.picks (s.k - 1) + 1 ≡ c.from-pick.result + 1 = ap (λ (i : ℕ). i + 1) (sym c.from-pick.ensures) in
    let above = depths-sound g.row.W p s.picks s.k c.args.days.now c.requires.2 (s.k - 1) (omega (arith, c.requires.1)) in (
      within-held p s.picks s.k (search rules) c.requires.0 f named,
      ap sound (facts-held p s.picks s.k (search rules) c.requires.0 f named) ∙ c.requires.3,
      subst (λ (i : ℕ). i ≤ length (held f)) news (newest-few p s.picks s.k (search rules) c.requires.0 f named c.requires.1),
      subst (λ (i : ℕ). sound (map (arc (arcs p)) (drop i (held f))) ≡ true) news (older-sound p s.picks s.k (search rules) c.requires.0 f named c.requires.1 above),
      c.requires.4,
    )

pub returns-in-Some : goal.returns-in-Some
returns-in-Some g c =
    let p = c.args.p.now in
    let s = c.args.s in
    let (kept, size) = row-kept p s.picks s.k c.facts_of-f.result (facts-held p s.picks s.k (search rules) c.requires.0 c.facts_of-f.result c.facts_of-f.ensures.0) c.args.reasons.now c.put_closing.new.reasons c.args.rows c.put_closing.ensures in
    (kept, size, depths-beside g.row.W p s.picks s.k c.args.days.now c.passes_all.new.days c.passes_all.ensures.beside c.requires.2)

pub returns-in-None : goal.returns-in-None
returns-in-None g c =
    let p = c.args.p.now in
    let s = c.args.s in
    let (kept, size) = row-kept p s.picks s.k c.facts_of-f.result (facts-held p s.picks s.k (search rules) c.requires.0 c.facts_of-f.result c.facts_of-f.ensures.0) c.args.reasons.now c.put_reason.new.reasons c.args.rows c.put_reason.ensures in
    (kept, size, depths-beside g.row.W p s.picks s.k c.args.days.now c.passes_all.new.days c.passes_all.ensures.beside c.requires.2)

pub returns-else-has_room : goal.returns-else-has_room
returns-else-has_room g c = (keeps-over c.args.reasons.now c.args.rows _ (grind (arith, tests)), refl, c.requires.2)

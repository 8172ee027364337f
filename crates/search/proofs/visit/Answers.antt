-- `search::visit` meets its contract: the mark and its cycle rows are kept, and the place is the one that the search comes to next. Assumes nothing.
use mathlib.Core.Path.{◌≡◌, refl, ap, ◌∙◌, subst}
use mathlib.Core.List.{List, [], ◌∷◌, map}
use Prim.Native.Nat.{ℕ, ◌+◌}
use native.Mathlib.Omega.{arith}
use lib.ListN.{length}
use borrow.Author.Rules.{rules}
use Rattle.meaning.specs.Limits.{row_bytes, onward_mark, dead_mark}
use Rattle.meaning.specs.Search.{mark, cycle}
use Rattle.meaning.specs.Reasons.{mark_row}
use Rattle.problem.specs.Laid.{clause_of}
use Rattle.taking.proofs.Taking.{table-small}
use Rattle.search.specs.Listing.{put_row, Keeps}
use Rattle.search.specs.Depths.{facts_at}
use Rattle.search.proofs.Keeping.{keeps-mark, mark-length, keeps_then}
use Rattle.search.proofs.Tables.{depths-less, depths-sound, depths-down, read-day}
use Rattle.search.proofs.Steps.{counted-on}
use Rattle.search.proofs.Moving.{found-dead, leaves-stacked, steps-dead, steps-open}
use Rattle.search.proofs.visit.Goals as goal

pub first_dead-requires : goal.first_dead-requires
first_dead-requires g c =
    let p = c.args.p.now in
    let k = c.args.s.standing.k in
    let picks = c.args.s.standing.picks in
    let depths = c.requires.4 in
    let (all, row) = table-small g.row.W depths.roomy.few in
    (all, (row, (depths.roomy.wide, depths.roomy.few, omega arith, record { fs = facts_at p picks k; holds = read-day g.row.W p picks k c.args.days.now c.index-days-s.result c.index-days-s.is c.requires.0.inside depths })))

pub put_cycles-rows-requires : goal.put_cycles-rows-requires
put_cycles-rows-requires g c =
    let p = c.args.p.now in
    let k = c.args.s.standing.k in
    let picks = c.args.s.standing.picks in
    let depths = c.requires.4 in
    let (all, row) = table-small g.row.W depths.roomy.few in
    let day = read-day g.row.W p picks k c.args.days.now c.index-days-s.result c.index-days-s.is c.requires.0.inside depths in
    let lowest = c.in-Some.ensures (facts_at p picks k) day in
    (all, (row, (c.requires.0.inside, depths.roomy.wide, depths.roomy.few, day, lowest.some-dead.1, found-dead p (facts_at p picks k) k c.in-Some.d lowest, omega (arith, c.requires.0.few))))

pub returns-in-Some : goal.returns-in-Some
returns-in-Some g c =
    let p = c.args.p.now in
    let s = c.args.s in
    let k = s.standing.k in
    let picks = s.standing.picks in
    let d = c.in-Some.d in
    let depths = c.requires.4 in
    let facts = facts_at p picks k in
    let lowest = c.in-Some.ensures facts (read-day g.row.W p picks k c.args.days.now c.index-days-s.result c.index-days-s.is c.requires.0.inside depths) in
    let marked : c.put_row.new.reasons ≡ put_row c.args.reasons.now s.rows (mark_row row_bytes (dead_mark + d)) = c.put_row.ensures ∙ ap (put_row c.args.reasons.now s.rows) c.mark_row.ensures in
    let size : length c.put_cycles-rows.new.reasons ≡ length c.put_row.new.reasons = c.put_cycles-rows.auto.reasons in
    let cycles = subst (λ (m : List ℕ). Keeps m c.put_cycles-rows.new.reasons (s.rows + 1) (map (λ x. cycle (x ∷ facts)) (clause_of p d))) marked c.put_cycles-rows.ensures.0 in
    let kept = keeps_then c.args.reasons.now (put_row c.args.reasons.now s.rows (mark_row row_bytes (dead_mark + d))) c.put_cycles-rows.new.reasons s.rows (s.rows + 1) (mark (dead_mark + d) ∷ []) _ (mark-length c.args.reasons.now s.rows (dead_mark + d)) refl (keeps-mark c.args.reasons.now s.rows (dead_mark + d)) cycles in
    let whole : length c.put_cycles-rows.new.reasons ≡ length c.args.reasons.now = size ∙ c.put_row.auto.reasons in (
      steps-dead p c.args.allowance s (search rules) c.requires.0 c.args.reasons.now d c.put_cycles-rows.result c.put_cycles-rows.new.reasons c.leave.result (depths-sound g.row.W p picks (k + 1) c.args.days.now depths k (omega arith)) c.requires.2 lowest kept whole c.put_cycles-rows.ensures.1 c.leave.ensures,
      leaves-stacked g.row.W p (counted-on s (s.visits + 1) c.put_cycles-rows.result) c.leave.result c.args.days.now (search rules) c.requires.0.inside c.leave.ensures (depths-less g.row.W p picks k c.args.days.now depths),
    )

pub returns : goal.returns
returns g c =
    let p = c.args.p.now in
    let s = c.args.s in
    let k = s.standing.k in
    let picks = s.standing.picks in
    let depths = c.requires.4 in
    let facts = facts_at p picks k in
    let lowest = c.in_default.ensures facts (read-day g.row.W p picks k c.args.days.now c.index-days-s.result c.index-days-s.is c.requires.0.inside depths) in
    let marked : c.put_row-2.new.reasons ≡ put_row c.args.reasons.now s.rows (mark_row row_bytes onward_mark) = c.put_row-2.ensures ∙ ap (put_row c.args.reasons.now s.rows) c.mark_row-2.ensures in
    (steps-open p c.args.allowance s (search rules) c.requires.0 c.args.reasons.now c.put_row-2.new.reasons (depths-sound g.row.W p picks (k + 1) c.args.days.now depths k (omega arith)) c.requires.2 c.requires.3 lowest (rw marked (keeps-mark c.args.reasons.now s.rows onward_mark)) c.put_row-2.auto.reasons, depths-down g.row.W p picks k 0 c.args.days.now depths)

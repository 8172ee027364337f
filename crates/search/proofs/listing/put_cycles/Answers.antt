-- `listing::put_cycles` meets its contract. Assumes nothing.
use mathlib.Core.Path.{sym, ap, ◌∙◌, subst}
use mathlib.Core.List.{List, ◌∷◌, map}
use native.Mathlib.Omega.{arith}
use borrow.Author.Rules.{rules}
use borrow.Author.Tests.{tests}
use Rattle.meaning.specs.Problem.{Alternative}
use Rattle.meaning.specs.Decision.{sound}
use Rattle.meaning.specs.Search.{dead, cycle}
use Rattle.problem.specs.Laid.{clause_of}
use Rattle.taking.specs.Tables.{IsDay}
use Rattle.taking.proofs.Taking.{table-small}
use Rattle.search.specs.Listing.{Keeps}
use Rattle.search.specs.Depths.{facts_at}
use Rattle.search.proofs.Keeping.{keeps-over}
use Rattle.search.proofs.Naming.{facts-held, ready}
use Rattle.search.proofs.Numbers.{clause-next}
use Rattle.search.proofs.listing.put_cycles.Goals.{then-has_room, else-has_room}
use Rattle.search.proofs.listing.put_cycles.Goals as goal

pub put_clause-requires : goal.put_clause-requires
put_clause-requires g c =
    let p = c.args.p.now in
    let s = c.args.s in
    let facts = facts-held p s.picks s.k (search rules) c.requires.0 c.facts_of.result c.facts_of.ensures.0 in
    let (all, row) = table-small g.row.W c.requires.2 in (
      all,
      (
        row,
        (
          ready p s.picks s.k (search rules) c.requires.0 c.facts_of.result c.facts_of.ensures.0 c.facts_of.ensures.1,
          c.requires.1,
          c.requires.2,
          subst (λ (fs : List Alternative). IsDay g.row.W fs c.args.day.now) (sym facts) c.requires.3,
          c.requires.4,
          ap (λ (fs : List Alternative). dead sound fs (clause_of p c.args.d)) facts ∙ c.requires.5,
          c.requires.6,
        ),
      ),
    )

pub returns : goal.returns
returns g c =
    let p = c.args.p.now in
    let s = c.args.s in
    let kept : Keeps c.args.reasons.now c.if-has_room.reasons c.args.rows (map (λ a. cycle (a ∷ facts_at p s.picks s.k)) (clause_of p c.args.d)) = elim c.if-has_room.branch [
      | then-has_room w ↦ rw w.reasons-is (subst (λ (fs : List Alternative). Keeps c.args.reasons.now w.put_clause.new.reasons c.args.rows (map (λ a. cycle (a ∷ fs)) (clause_of p c.args.d))) (facts-held p s.picks s.k (search rules) c.requires.0 w.facts_of.result w.facts_of.ensures.0) w.put_clause.ensures)
      | else-has_room w ↦ rw w.reasons-is (keeps-over c.args.reasons.now c.args.rows _ (grind (arith, tests)))
    ] in
    (kept, omega (arith, clause-next p c.args.d c.requires.4, c.from.ensures))

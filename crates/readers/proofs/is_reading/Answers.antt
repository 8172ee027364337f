-- `readers::is_reading` meets its contract: the reading from the first row, and the bytes after it. Assumes nothing.
use Rattle.std.proofs.Common.{◌≡◌, ℕ, ◌-◌, List, [], map, refl, sym, ap, ◌∙◌, arith}
use mathlib.Core.Option.{Option}
use Rattle.meaning.specs.Limits.{row_bytes}
use Rattle.meaning.specs.Reasons.{blank, read}
use Rattle.problem.specs.declared.Problem.{Problem}
use Rattle.problem.specs.Arcs.{arc}
use Rattle.problem.specs.Laid.{arcs, clauses_from, clauses_in}
use Rattle.readers.specs.declared.facts.Facts.{Facts}
use Rattle.readers.specs.Standing.{held, facts_from}
use Rattle.readers.proofs.Rows.{whole-no, whole_row}
use Rattle.readers.proofs.is_reading.Goals as goal

-- the reading begins with all clauses and no facts
begun : (p : Problem) (f : Facts) (rows : List (List ℕ)) (o : Option (List (List ℕ))) → held f ≡ [] → read row_bytes (clauses_from p 0 (p.m - 0)) 0 (facts_from p f) rows ≡ o → read row_bytes (clauses_in p) 0 [] rows ≡ o
begun p f rows o e q =
    let z : p.m ≡ p.m - 0 = omega arith in
    ap (λ n. read row_bytes (clauses_from p 0 n) 0 [] rows) z
    ∙ ap (λ L. read row_bytes (clauses_from p 0 (p.m - 0)) 0 (map (arc (arcs p)) L) rows) (sym e)
    ∙ q

pub returns-in-None : goal.returns-in-None
returns-in-None c =
    sym (whole-no (clauses_in c.args.p.now) c.args.list.now _ c.as_chunks.ensures.front (begun c.args.p.now c.none.result _ _ c.none.ensures.0 c.in-None.ensures))

pub returns-then-are_blank : goal.returns-then-are_blank
returns-then-are_blank c =
    c.is_blank.ensures
    ∙ ap blank c.as_chunks.ensures.back
    ∙ sym
    (whole_row (clauses_in c.args.p.now) c.args.list.now _ c.as_chunks.ensures.front _ (begun c.args.p.now c.none.result _ _ c.none.ensures.0 c.in-Some.ensures)
    ∙ rw (sym c.are_blank.ensures ∙ c.if-are_blank.true) refl)

pub returns-else-are_blank : goal.returns-else-are_blank
returns-else-are_blank c =
    c.if-are_blank.false
    ∙ sym
    (whole_row (clauses_in c.args.p.now) c.args.list.now _ c.as_chunks.ensures.front _ (begun c.args.p.now c.none.result _ _ c.none.ensures.0 c.in-Some.ensures)
    ∙ rw (sym c.are_blank.ensures ∙ c.if-are_blank.false) refl)

-- `depths::dead_clause` meets its contract. Assumes nothing.
use mathlib.Core.Path.{◌≡◌, ap₂, ◌∙◌}
use Prim.Native.Nat.{ℕ, ◌-◌}
use native.Mathlib.Omega.{arith}
use Rattle.meaning.specs.Decision.{sound}
use Rattle.meaning.specs.Search.{dead}
use Rattle.problem.specs.Arcs.{arcs_from}
use Rattle.problem.specs.Laid.{arcs, size_of}
use Rattle.problem.proofs.Laying.{clause-ends}
use Rattle.taking.proofs.Taking.{table-small}
use Rattle.search.proofs.Numbers.{clause-next}
use Rattle.search.proofs.Tables.{arc-wide}
use Rattle.search.proofs.depths.dead_clause.Goals as goal

pub is_dead-requires : goal.is_dead-requires
is_dead-requires g c =
    let p = c.args.p.now in
    let d = c.args.d in
    let (all, row) = table-small g.row.W c.requires.1 in
    let up = clause-next p d c.requires.2 in
    let last = clause-ends p d c.requires.2 in (
      all,
      (
        row,
        (
          c.requires.1,
          omega (arith, up, c.from.ensures, c.from-2.ensures),
          omega (arith, up, last, c.from-2.ensures, p.laid.last),
          λ j l. arc-wide (arcs p) p.n g.row.W j c.requires.0 (p.laid.alternative j (omega (arith, up, last, c.from-2.ensures))),
          c.requires.3,
        ),
      ),
    )

pub returns : goal.returns
returns g c = λ fs day.
    let p = c.args.p.now in
    let d = c.args.d in
    let size : c.from-2.result - c.from.result ≡ size_of p d = omega (arith, clause-next p d c.requires.2, c.from.ensures, c.from-2.ensures) in
    c.is_dead.ensures fs day ∙ ap₂ (λ (j n : ℕ). dead sound fs (arcs_from (arcs p) j n)) c.from.ensures size

-- `depths::enters` meets its contract: the table of the standing is made of the one above it. Assumes nothing.
use mathlib.Core.Path.{ap}
use Prim.Native.Nat.{ℕ, ◌+◌, ◌-◌, ◌<◌}
use native.Mathlib.Omega.{arith}
use borrow.Author.Rules.{rules}
use Rattle.taking.proofs.Taking.{table-small}
use Rattle.search.proofs.Tables.{enters-first, enters-last, depths-held, arcs-taken}
use Rattle.search.proofs.depths.enters.Goals as goal

pub returns-then-s-eq0 : goal.returns-then-s-eq0
returns-then-s-eq0 g c =
    enters-first g.row.W c.args.p.now c.args.s.picks c.args.s.k c.args.days.now c.begin.new.days c.if-s-eq0.true c.requires.1 c.begin.ensures.0 c.begin.ensures.1

pub takes-requires : goal.takes-requires
takes-requires g c =
    let p = c.args.p.now in
    let s = c.args.s in
    let inside = c.requires.0 in
    let depths = c.requires.1 in
    let (all, row) = table-small g.row.W depths.roomy.few in
    let above : s.k - 1 < s.k = omega (arith, c.if-s-eq0.false) in (
      all,
      (
        row,
        (
          depths.roomy.few,
          omega (arith, depths.roomy.room, inside.few),
          omega (arith, depths.roomy.room, inside.few),
          depths.roomy.tall,
          omega arith,
          arcs-taken p s.picks s.k g.row.W (c.from-first.result + c.from.result) (omega arith) inside depths.roomy.wide (omega (arith, c.from-first.ensures, c.from.ensures)),
          depths-held g.row.W p s.picks s.k c.args.days.now depths (s.k - 1) above,
        ),
      ),
    )

pub returns : goal.returns
returns g c =
    enters-last g.row.W c.args.p.now c.args.s.picks c.args.s.k c.from-first.result (c.from-first.result + c.from.result) c.args.days.now c.takes.new.days c.takes.result (search rules) c.if-s-eq0.false c.requires.0 c.from-first.ensures (ap (λ (i : ℕ). c.from-first.result + i) c.from.ensures) c.requires.1 c.takes.ensures

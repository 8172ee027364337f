-- `taking::takes` meets its contract. Assumes nothing.
use native.Mathlib.Omega.{arith}
use Rattle.problem.specs.Arcs.{net}
use Rattle.taking.proofs.Taking.{table-small, still-tall, takes-none, takes-fails, takes-last, passed-held}
use Rattle.taking.proofs.takes.Goals as goal

pub returns-then-not-allows : goal.returns-then-not-allows
returns-then-not-allows g c =
    takes-none g.row.W c.args.days.now c.args.from c.args.to (net c.args.arcs.now) c.args.first c.args.last c.allows.result c.allows.ensures c.if-not-allows.true

pub adds-requires : goal.adds-requires
adds-requires g c =
    let (all, row) = table-small g.row.W c.requires.0 in
    let passes = c.passes_all.ensures in (
      all,
      (
        row,
        (
          c.requires.0,
          passes.room c.in-Some.base c.in-Some.is,
          omega arith,
          still-tall g.row.W c.args.days.now c.passes_all.new.days c.args.to passes.beside c.requires.3,
          c.requires.5.own c.args.last (omega arith),
          passed-held g.row.W c.args.days.now c.args.from c.args.to (net c.args.arcs.now) c.args.first c.args.last c.passes_all.new.days passes c.in-Some.base c.in-Some.is c.requires.6,
        ),
      ),
    )

pub returns-in-Some : goal.returns-in-Some
returns-in-Some g c =
    takes-last g.row.W c.args.days.now c.args.from c.args.to (net c.args.arcs.now) c.args.first c.args.last c.passes_all.new.days c.passes_all.ensures c.in-Some.base c.in-Some.is c.adds.new.days c.adds.result c.adds.ensures

pub returns-in-None : goal.returns-in-None
returns-in-None g c =
    takes-fails g.row.W c.args.days.now c.args.from c.args.to (net c.args.arcs.now) c.args.first c.args.last c.passes_all.new.days c.passes_all.ensures c.in-None.is

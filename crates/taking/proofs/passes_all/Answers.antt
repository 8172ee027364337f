-- `taking::passes_all` meets its contract: the opposites passed over so far are in the table. Assumes nothing.
use native.Mathlib.Omega.{arith}
use Rattle.problem.specs.Arcs.{net}
use Rattle.taking.proofs.Taking.{table-small, still-tall, passing-none, passing-held, passing-more, passing-fails, passing-all, arcs-fewer}
use Rattle.taking.proofs.passes_all.Goals as goal

pub loop-j-init : goal.loop-j-init
loop-j-init g c = passing-none g.row.W c.args.days.now c.args.from c.args.to (net c.args.arcs.now) c.args.first c.requires.1

pub passes-requires : goal.passes-requires
passes-requires g c =
    let (all, row) = table-small g.row.W c.requires.0 in (
      all,
      (
        row,
        (
          c.requires.0,
          c.loop-j.invariant.room,
          omega arith,
          still-tall g.row.W c.args.days.now c.loop-j.days c.args.to c.loop-j.invariant.beside c.requires.3,
          arcs-fewer (net c.args.arcs.now) g.row.W c.args.last c.loop-j.j (omega arith) c.requires.5,
          passing-held c.loop-j.invariant c.requires.6,
        ),
      ),
    )

pub returns-in_err-base : goal.returns-in_err-base
returns-in_err-base g c =
    rw c.from_residual.ensures (passing-fails g.row.W c.args.days.now c.args.from c.args.to (net c.args.arcs.now) c.args.first c.loop-j.days c.passes.new.days c.loop-j.j c.loop-j.base (omega arith) c.loop-j.invariant c.passes.ensures c.args.last (omega arith) c.in_err-base.was)

pub loop-j-preserved : goal.loop-j-preserved
loop-j-preserved g c =
    passing-more g.row.W c.args.days.now c.args.from c.args.to (net c.args.arcs.now) c.args.first c.loop-j.days c.passes.new.days c.loop-j.j c.loop-j.base (omega arith) c.loop-j.invariant c.passes.ensures c.in_ok-base.base c.in_ok-base.was

pub returns : goal.returns
returns g c = passing-all g.row.W c.args.days.now c.args.from c.args.to (net c.args.arcs.now) c.args.first c.loop-j.days c.loop-j.j c.args.last c.loop-j.base (omega arith) c.loop-j.invariant

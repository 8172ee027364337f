-- `taking::passes` meets its contract: the opposite is added where its alternative fits, and implied where that does not. Assumes nothing.
use Rattle.problem.specs.Arcs.{net}
use Rattle.taking.proofs.Taking.{passes-implied}
use Rattle.taking.proofs.passes.Goals as goal

pub returns-then-not-allows : goal.returns-then-not-allows
returns-then-not-allows g c =
    passes-implied g.row.W c.requires.0 c.args.days.now c.args.base c.args.to (net c.args.arcs.now) c.args.j c.requires.1 c.requires.4 c.allows.result c.allows.ensures c.if-not-allows.true

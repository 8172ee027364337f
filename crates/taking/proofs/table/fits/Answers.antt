-- `table::fits` meets its contract. Assumes nothing.
use Rattle.taking.proofs.Adding.{fits-means}
use Rattle.taking.proofs.table.fits.Goals as goal

pub returns : goal.returns
returns g c = λ fs a stands day.
    fits-means g.row.W c.requires.0 fs c.args.day.now day c.args.fact.x c.args.fact.y c.args.fact.b a stands c.requires.1 c.requires.2 c.args.fact.bounded

-- `fits_with` meets its contract. Assumes nothing.
use mathlib.Core.Path.{◌≡◌, ◌∙◌}
use Prim.Native.Nat.{◌+◌, ◌*◌}
use native.Mathlib.Omega.{arith}
use lib.Dec.{leb}
use Rattle.problem.specs.Arcs.{at}
use Rattle.distances.specs.Numbers.{turn}
use Rattle.distances.proofs.Meaning.{fits-means}
use Rattle.distances.proofs.fits_with.Goals as goal

pub returns-clause-decides : goal.returns-clause-decides
returns-clause-decides c = λ fs a h day.
    let test_is : leb turn c.saturating_add.result ≡ leb turn (at c.args.s.now (c.args.day.base + (c.args.fact.x * c.args.day.w + c.args.fact.y)) + c.args.fact.b) = grind arith in
    test_is ∙ fits-means c.args.s.now c.args.day.base c.args.day.w c.args.day.n c.args.fact.x c.args.fact.y c.args.fact.b a h c.requires.1 c.requires.2 fs day

-- `taking::closes` meets its contract: a fact that closes nothing in numbers is set aside. Assumes nothing.
use mathlib.Core.Path.{◌≡◌}
use Prim.Native.Nat.{◌+◌, ◌*◌}
use native.Mathlib.Omega.{arith}
use borrow.Author.Tests.{ltb-false}
use Rattle.problem.specs.Arcs.{net, head, tail, bound}
use Rattle.taking.specs.Tables.{turn, entry}
use Rattle.taking.proofs.Closing.{set-aside}
use Rattle.taking.proofs.closes.Goals as goal

pub returns : goal.returns
returns g c = λ fs day e.
    let n = net c.args.arcs.now in
    let a = c.args.a in
    let j = c.args.j in
    let t = c.args.day.now in
    let way : c.way_through.result ≡ entry t (head n a) (tail n j) + bound n j + entry t (head n j) (tail n a) = rw (← c.fact-new.ensures.0, ← c.fact-new.ensures.1, ← c.fact-old.ensures.0, ← c.fact-old.ensures.1, ← c.fact-old.ensures.2) c.way_through.ensures.0 in
    let over = ltb-false (c.way_through.result + c.fact-new.result.b) (2 * turn) e in
    set-aside n g.row.W fs t day a j c.requires.1 c.requires.2 (omega (arith, over, way, c.fact-new.ensures.2))

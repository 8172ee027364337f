-- `test_with` tests one fact more: the arc is stored before the facts. Assumes nothing.
use Prim.Native.Nat.{◌-◌}
use native.Mathlib.Omega.{arith}
use Rattle.problem.specs.Arcs.{net}
use Rattle.facts.specs.Tests.{places}
use Rattle.facts.proofs.Adding.{within-stored, tests-stored}
use Rattle.facts.proofs.test_with.Goals as goal

pub test-requires : goal.test-requires
test-requires c =
    let a = c.args in
    (within-stored a.buffer a.at a.j (places - (a.at - 1)) c.requires.2 (omega arith) (omega arith) _ a.n c.requires.0 c.requires.1, c.requires.4, c.requires.5)

pub returns : goal.returns
returns c =
    let a = c.args in
    tests-stored a.buffer a.at a.j (places - (a.at - 1)) c.requires.2 (omega arith) (omega arith) (net a.arcs.now) a.n c.test.result c.test.ensures

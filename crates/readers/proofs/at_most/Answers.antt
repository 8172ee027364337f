-- `readers::at_most` meets its contract: the bound fits in 32 bits, and the difference of two times in 64. Assumes nothing.
use Rattle.std.proofs.Common.{◌≡◌, refl, arith, w64, to_z, of_z, ◌-ℤ◌}
use Rattle.std.proofs.lemmas.Int.{ints}
use lib.IntN.{pos}
use Rattle.problem.specs.Arcs.{bias}
use Rattle.readers.proofs.at_most.Goals as goal

pub returns : goal.returns
returns c =
    let difference : to_z w64 (of_z w64 (to_z w64 (of_z w64 c.from.result) -ℤ to_z w64 (of_z w64 c.from-2.result))) ≡ c.args.tx -ℤ c.args.ty = omega (arith, ints) in
    let most : to_z w64 (of_z w64 c.from-3.result) ≡ pos c.args.b -ℤ pos bias = omega (arith, ints) in
    rw (difference, most) refl

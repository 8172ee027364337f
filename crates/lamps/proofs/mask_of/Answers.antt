-- `lamps::mask_of` meets its contract: as many low bits as the clause has alternatives, at its place. Assumes nothing.
use mathlib.Core.Path.{◌≡◌, ap, ◌∙◌}
use Prim.Native.Nat.{ℕ, ◌+◌, ◌-◌, ◌^◌, ◌≤◌}
use native.Mathlib.Omega.{arith}
use lib.Pow.{pow_mono}
use Rattle.lamps.specs.Masks.{mask}
use Rattle.lamps.proofs.Sets.{low_bits, mask_is}
use Rattle.lamps.proofs.mask_of.Goals as goal

pub returns-then-from-end : goal.returns-then-from-end
returns-then-from-end c = omega (arith, ap (λ (k : ℕ). 2 ^ k) c.if-from-end.true)

pub overflow_sub-result-2 : goal.overflow_sub-result-2
overflow_sub-result-2 c =
    let s = c.args.end - c.args.from in
    let some : 1 ≤ s = omega (arith, c.if-from-end.false) in
    omega (arith, low_bits s (omega arith), pow_mono some)

pub returns : goal.returns
returns c =
    let a = c.args.from in
    let s = c.args.end - a in
    mask_is a s (omega arith) (omega arith) ∙ ap (mask a) (let e : s + a ≡ c.args.end = omega arith in e)

-- `signed_of` meets its contract: the first byte says which of the two unsigned numbers was read. Assumes nothing.
use Prim.Native.Nat.{◌≤◌}
use native.Mathlib.Omega.{arith}
use mir.Syntax.{w32, w64}
use mir.Facts.{to_z_pos, to_z-of_z}
use Rattle.std.specs.Prelude.{None, Some}
use Rattle.dialogue.proofs.Signs.{minus-fits, zero_minus}
use Rattle.dialogue.proofs.Spelling.{most-read, signed-minus, signed-plain}
use Rattle.dialogue.proofs.reading.signed_of.Goals as goal

pub returns-in_err-size : goal.returns-in_err-size
returns-in_err-size c =
    let h = c.in-Some.ensures.cases in
    rw (c.from_residual.ensures, signed-minus c.args.word.now c.in-Some.digits.now None h.0 h.1 c.in_err-size.ensures)

pub overflow_cast-result-in-Some : goal.overflow_cast-result-in-Some
overflow_cast-result-in-Some c =
    let v = c.in_ok-size.size in
    let l : v ≤ 0x80000000 = most-read 0x80000000 c.in-Some.digits.now c.in_ok-size.ensures in
    rw (to_z_pos w64 {n = v} (omega arith), to_z-of_z (minus-fits w64 v (omega arith) (omega arith))) (minus-fits w32 v (omega arith) (omega arith))

pub returns-in-Some : goal.returns-in-Some
returns-in-Some c =
    let h = c.in-Some.ensures.cases in
    let v = c.in_ok-size.size in
    let l : v ≤ 0x80000000 = most-read 0x80000000 c.in-Some.digits.now c.in_ok-size.ensures in
    rw (signed-minus c.args.word.now c.in-Some.digits.now (Some v) h.0 h.1 c.in_ok-size.ensures, to_z_pos w64 {n = v} (omega arith), to_z-of_z (minus-fits w64 v (omega arith) (omega arith)), to_z-of_z (minus-fits w32 v (omega arith) (omega arith)), zero_minus v)

pub returns-in_err-size-2 : goal.returns-in_err-size-2
returns-in_err-size-2 c =
    rw (c.from_residual-in_err-size-2.ensures, signed-plain c.args.word.now None c.in_default.ensures.cases c.in_err-size-2.ensures)

pub overflow_cast-result-2 : goal.overflow_cast-result-2
overflow_cast-result-2 c =
    let l : c.in_ok-size-2.size ≤ 0x7fffffff = most-read 0x7fffffff c.args.word.now c.in_ok-size-2.ensures in
    record { sfits = omega arith }

pub returns : goal.returns
returns c =
    let v = c.in_ok-size-2.size in
    let l : v ≤ 0x7fffffff = most-read 0x7fffffff c.args.word.now c.in_ok-size-2.ensures in
    rw (to_z_pos w32 {n = v} (omega arith), signed-plain c.args.word.now (Some v) c.in_default.ensures.cases c.in_ok-size-2.ensures)

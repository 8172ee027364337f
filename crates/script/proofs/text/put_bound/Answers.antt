-- `put_bound` meets its contract: by the sign, one text after another.
use mathlib.Core.Path.{◌≡◌, ◌∙◌}
use lib.IntN.{pos, nat_abs}
use mir.Facts.{to_z-of_z}
use mathlib.Core.Bool.{true, false}
use lib.Signed.{lt_z}
use Rattle.dialogue.proofs.Puts.{puts_then}
use Rattle.grammar.specs.Grammar.{bytes}
use Rattle.script.proofs.Putting.{bound-below, bound-else}
use Rattle.script.proofs.text.put_bound.Goals as goal

pub returns-then-c-lt0 : goal.returns-then-c-lt0
unfolding bytes
returns-then-c-lt0 c =
    let a = c.args in
    let v = c.unsigned_abs in
    let e : lt_z a.c (pos 0) ≡ true = rw (to_z-of_z c.ranges.c) at c.if-c-lt0.true in
    let n : c.from-value.result ≡ nat_abs a.c = c.from-value.ensures ∙ rw (to_z-of_z c.ranges.c) at v.ensures.value in
    rw (bound-below a.c e, ← n)
    (puts_then c.put.ensures (puts_then c.put_number.ensures c.put-then-c-lt0.ensures))

pub returns-else-c-lt0 : goal.returns-else-c-lt0
returns-else-c-lt0 c =
    let a = c.args in
    let v = c.unsigned_abs in
    let e : lt_z a.c (pos 0) ≡ false = rw (to_z-of_z c.ranges.c) at c.if-c-lt0.false in
    let n : c.from-value.result ≡ nat_abs a.c = c.from-value.ensures ∙ rw (to_z-of_z c.ranges.c) at v.ensures.value in
    rw (bound-else a.c e, ← n) c.put_number-else-c-lt0.ensures

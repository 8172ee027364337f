-- `put_atom` meets its contract: one text after another.
use Rattle.std.proofs.Common.{◌≡◌, nat_abs}
use mir.Facts.{to_z-of_z}
use Rattle.dialogue.proofs.Puts.{puts_then}
use Rattle.grammar.specs.Grammar.{bytes}
use Rattle.script.specs.Text.{atom_of}
use Rattle.script.proofs.text.put_atom.Goals as goal

pub returns : goal.returns
unfolding atom_of bytes
returns c =
    let x : c.unsigned_abs.result ≡ nat_abs c.args.x = rw (to_z-of_z c.ranges.x) at c.unsigned_abs.ensures.value in
    let y : c.unsigned_abs-2.result ≡ nat_abs c.args.y = rw (to_z-of_z c.ranges.y) at c.unsigned_abs-2.ensures.value in
    puts_then c.put.ensures (puts_then (rw (c.from.ensures, x) at c.put_name.ensures) (puts_then c.put-2.ensures (puts_then (rw (c.from-2.ensures, y) at c.put_name-2.ensures) (puts_then c.put-3.ensures (puts_then (rw (to_z-of_z c.ranges.c) at c.put_bound.ensures) c.put-4.ensures)))))

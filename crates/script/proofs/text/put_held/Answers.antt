-- `put_held` meets its contract: by how many alternatives there are.
use lib.ListN.{length, get_or}
use mathlib.Core.Path.{◌≡◌}
use borrow.Author.Rules.{rules}
use Prim.Native.Nat.{◌+◌, ◌*◌, ◌<◌}
use mir.Facts.{to_z-of_z}
use mir.Val.{SFits}
use mir.Syntax.{w32}
use native.Mathlib.Omega.{arith}
use lib.IntN.{pos}
use Rattle.problem.proofs.Triples.{alternative-at}
use Rattle.meaning.specs.Screen.{alternatives}
use Rattle.meaning.proofs.Accepted.{alternatives-count}
use Rattle.dialogue.proofs.Puts.{puts_then}
use Rattle.grammar.specs.Grammar.{bytes}
use Rattle.script.proofs.Putting.{held_none, held_one, held_more}
use Rattle.script.proofs.text.put_held.Goals as goal

pub returns-in-0 : goal.returns-in-0
unfolding bytes
returns-in-0 c =
    let ts = c.args.triples.now in
    let none-there : length (alternatives 0 ts) ≡ 0 = omega (arith, alternatives-count 0 ts) in
    rw (held_none (alternatives 0 ts) none-there) c.put.ensures

pub returns-in-1 : goal.returns-in-1
returns-in-1 c =
    let ts = c.args.triples.now in
    let one-there : length (alternatives 0 ts) ≡ 1 = omega (arith, alternatives-count 0 ts) in
    let inside : 0 * 3 + 2 < length ts = omega arith in
    let fx : SFits w32 (get_or ts 0 (pos 0)) = search rules in
    let fy : SFits w32 (get_or ts 1 (pos 0)) = search rules in
    let fc : SFits w32 (get_or ts 2 (pos 0)) = search rules in
    rw (held_one (alternatives 0 ts) one-there, alternative-at 0 ts inside) (rw (to_z-of_z fx, to_z-of_z fy, to_z-of_z fc) at c.put_atom.ensures)

pub returns-in_default : goal.returns-in_default
unfolding bytes
returns-in_default c =
    let a = c.args in
    let ts = a.triples.now in
    let more-there : 1 < length (alternatives 0 ts) = omega (arith, alternatives-count 0 ts) in
    rw (held_more (alternatives 0 ts) more-there)
    (puts_then c.put-in_default.ensures (puts_then c.put_atoms.ensures c.put-in_default-2.ensures))

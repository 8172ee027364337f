-- `put_atoms` meets its contract: the atoms that remain are fewer by one after each turn.
use mathlib.Core.List.{[], ◌∷◌, ◌++◌}
use mathlib.Core.Path.{◌≡◌, ap, ◌∙◌}
use mir.Val.{SFits}
use mir.Facts.{to_z-of_z}
use mir.Syntax.{w32}
use lib.IntN.{pos, nat_abs}
use lib.ListN.{get_or}
use native.Mathlib.Omega.{arith}
use borrow.Author.Rules.{rules}
use Rattle.dialogue.proofs.Puts.{remains_on, remains-none}
use Rattle.script.specs.Text.{atom_of}
use Rattle.script.proofs.Putting.{atoms, atoms-on, atoms-off}
use Rattle.script.proofs.text.put_atoms.Goals as goal

pub loop-triple-preserved : goal.loop-triple-preserved
loop-triple-preserved c =
    let l = c.loop-triple in
    let s = c.in-Some.ensures.steps in
    let p = c.in-Some.triple.now in
    let next = c.next.new.self.rest.now in
    let x = get_or p 0 (pos 0) in
    let y = get_or p 1 (pos 0) in
    let k = get_or p 2 (pos 0) in
    let fx : SFits w32 x = search rules in
    let fy : SFits w32 y = search rules in
    let fk : SFits w32 k = search rules in
    let atom = rw (to_z-of_z {w = w32} fx, to_z-of_z {w = w32} fy, to_z-of_z {w = w32} fk) at c.put_atom.ensures in
    let on : atoms l.triple-iterator.rest.now ≡ (32 ∷ []) ++ (atom_of (nat_abs x) (nat_abs y) k ++ atoms next) = ap atoms s.1.0 ∙ atoms-on p next (s.1.1 ∙ l.invariant.1.0) in
    ((omega arith, tt), (s.0 ∙ l.invariant.1.0, remains_on (remains_on (rw on at l.invariant.1.1) c.put.ensures) atom))

pub returns : goal.returns
returns c =
    let l = c.loop-triple in
    let off = atoms-off l.triple-iterator.rest.now (omega (arith, c.in-None.ensures.steps.1.0)) in
    remains-none (rw off at l.invariant.1.1)

-- `grammar::piece_at` meets its contract: the piece so far goes in front of what remains. Assumes nothing.
use mathlib.Core.Path.{◌≡◌, subst, sym}
use native.Mathlib.Omega.{arith}
use Prim.Native.Nat.{ℕ}
use lib.ListN.{length}
use denote.Enum.Bare.{same_true, same_false}
use Rattle.std.proofs.Common.{rules, Some, None}
use Rattle.grammar.specs.contracts.role.Role.{the_type}
use Rattle.grammar.specs.Automaton.{Moves, IsPiece}
use Rattle.grammar.proofs.Parts.{run-begins, run-goes-on, ends-with-text, ends-refused, ends-apart, none-at-the-end, none-refused}
use Rattle.grammar.proofs.pieces.piece_at.Goals as goal

pub returns-in_err-get : goal.returns-in_err-get
returns-in_err-get c =
    let a = c.args in
    let g = c.in_err-get.ensures.lookup in
    rw c.from_residual.ensures (none-at-the-end a.text.now a.at a.state (omega (arith, g.3)))

pub returns-in_err-first : goal.returns-in_err-first
returns-in_err-first c =
    let a = c.args in
    let g = c.in_ok-get.ensures.lookup.3 in
    rw c.from_residual-in_err-first.ensures
    (none-refused a.text.now a.at a.state g.0 (subst (λ (b : ℕ). Moves a.state b None) (g.1 0) c.in_err-first.ensures))

pub loop-i-init : goal.loop-i-init
loop-i-init c =
    let a = c.args in
    let g = c.in_ok-get.ensures.lookup.3 in
    let m = c.in_ok-first in
    run-begins a.text.now a.at a.state m.first g.0 (subst (λ (b : ℕ). Moves a.state b (Some m.first)) (g.1 0) m.ensures)

pub returns-in_default : goal.returns-in_default
returns-in_default c =
    let a = c.args in
    let l = c.loop-i in
    let m = c.in-Some in
    ends-apart a.text.now a.at a.state _ l.i l.s (omega arith) l.invariant m.next (omega arith) m.ensures (same_false the_type _ _ (sym c.if-eq.ensures))

pub returns-in_default-2 : goal.returns-in_default-2
returns-in_default-2 c =
    let a = c.args in
    let l = c.loop-i in
    ends-refused a.text.now a.at a.state _ l.i l.s (omega arith) l.invariant (omega arith) (subst (Moves l.s _) c.in_default.is c.step-in-loop-i.ensures)

pub loop-i-preserved : goal.loop-i-preserved
loop-i-preserved c =
    let a = c.args in
    let l = c.loop-i in
    let m = c.in-Some in
    run-goes-on a.text.now a.at a.state _ l.i l.s (omega arith) l.invariant m.next (omega arith) m.ensures (same_true the_type (search rules) _ _ (sym c.if-eq.ensures))

pub returns : goal.returns
returns c =
    let a = c.args in
    let l = c.loop-i in
    let e : l.i ≡ length a.text.now = omega (arith, c.in_ok-get.ensures.lookup.3.0) in
    subst (λ (k : ℕ). IsPiece a.text.now a.at a.state (record { role = c.in_ok-first.first.role; to = k; state = l.s })) e
    (ends-with-text a.text.now a.at a.state _ l.i l.s (omega arith) l.invariant e)

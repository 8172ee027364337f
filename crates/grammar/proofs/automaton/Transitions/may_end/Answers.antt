-- `grammar::Transitions::may_end` meets its contract. Assumes nothing.
use mathlib.Core.Path.{◌≡◌, refl, ap, ◌∙◌}
use mathlib.Core.Bool.{Bool, true, false}
use Prim.Native.Nat.{ℕ}
use native.Mathlib.Omega.{arith}
use lib.Dec.{eqb}
use Rattle.grammar.specs.Place.{ends}
use Rattle.grammar.specs.States.{grammar_of}
use Rattle.grammar.specs.Automaton.{end_no}
use Rattle.grammar.proofs.automaton.Transitions.may_end.Goals as goal

is_one : (b : Bool) → eqb (end_no b) 1 ≡ b
is_one true = refl
is_one false = refl

pub returns : goal.returns
returns c =
    let s = c.args.state in
    ap (λ (x : ℕ). eqb x 1) (c.args.self.now.is_table.ending s (omega arith)) ∙ is_one (ends (grammar_of s))

-- `grammar::role_in` meets its contract, class by class. Assumes nothing.
use mathlib.Core.Logic.{by_cases}
use native.Mathlib.Decide.{dec_lt}
use native.Mathlib.Omega.{arith}
use borrow.Author.Tests.{le-leb, lt-leb, eq-eqb, ne_eqb}
use Rattle.grammar.specs.Automaton.{role_in}
use Rattle.grammar.proofs.automaton.role_in.Goals as goal

pub returns-in-5 : goal.returns-in-5
unfolding role_in
returns-in-5 c =
    let a = c.args in
    rw (le-leb 6 a.r (omega arith), eq-eqb a.class 5 c.in-5.is)

pub returns-in-6 : goal.returns-in-6
unfolding role_in
returns-in-6 c =
    let a = c.args in
    rw (lt-leb 6 a.r (omega arith), le-leb 6 a.class (omega arith), lt-leb 8 a.class (omega arith))

pub returns-in-8-to-max : goal.returns-in-8-to-max
unfolding role_in
returns-in-8-to-max c =
    let a = c.args in
    rw (lt-leb 6 a.r (omega arith), le-leb 6 a.class (omega arith), le-leb 8 a.class (omega arith), lt-leb 4 a.r (omega arith))

pub returns-in_default : goal.returns-in_default
unfolding role_in
returns-in_default c =
    let a = c.args in
    rw (lt-leb 6 a.r (omega arith), lt-leb 6 a.class (omega arith))

pub returns-in_default-2 : goal.returns-in_default-2
unfolding role_in
returns-in_default-2 c =
    let a = c.args in
    by_cases (dec_lt a.r 6)
    (λ h. rw (lt-leb 6 a.r h, lt-leb 6 a.class (omega arith)))
    (λ h. rw (le-leb 6 a.r (omega arith), ne_eqb a.class 5 (omega arith)))

pub returns-in_default-3 : goal.returns-in_default-3
unfolding role_in
returns-in_default-3 c =
    let a = c.args in
    rw (le-leb 6 a.r (omega arith), ne_eqb a.class 5 (omega arith))

pub returns-in_default-4 : goal.returns-in_default-4
unfolding role_in
returns-in_default-4 c =
    let a = c.args in
    by_cases (dec_lt a.r 6)
    (λ h. rw (lt-leb 6 a.r h, le-leb 6 a.class (omega arith), le-leb 8 a.class (omega arith), le-leb 4 a.r (omega arith)))
    (λ h. rw (le-leb 6 a.r (omega arith), ne_eqb a.class 5 (omega arith)))

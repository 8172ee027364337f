-- `grammar::Role::from` meets its contract: each role by its number. Assumes nothing.
use native.Mathlib.Omega.{arith}
use Rattle.grammar.specs.Grammar.{role_no, new_name, first_name, second_name, bound_digit, negated_digit, declaration_end, assert_end, check_end}
use Rattle.grammar.proofs.Same.{by_its_number, by_no-number}
use Rattle.grammar.proofs.role.RoleFromU8.from.Goals as goal

pub returns-in-1 : goal.returns-in-1
unfolding role_no
returns-in-1 c = by_its_number new_name c.in-1.is

pub returns-in-2 : goal.returns-in-2
unfolding role_no
returns-in-2 c = by_its_number first_name c.in-2.is

pub returns-in-3 : goal.returns-in-3
unfolding role_no
returns-in-3 c = by_its_number second_name c.in-3.is

pub returns-in-4 : goal.returns-in-4
unfolding role_no
returns-in-4 c = by_its_number bound_digit c.in-4.is

pub returns-in-5 : goal.returns-in-5
unfolding role_no
returns-in-5 c = by_its_number negated_digit c.in-5.is

pub returns-in-6 : goal.returns-in-6
unfolding role_no
returns-in-6 c = by_its_number declaration_end c.in-6.is

pub returns-in-7 : goal.returns-in-7
unfolding role_no
returns-in-7 c = by_its_number assert_end c.in-7.is

pub returns-in-8 : goal.returns-in-8
unfolding role_no
returns-in-8 c = by_its_number check_end c.in-8.is

pub returns-in_default : goal.returns-in_default
returns-in_default c = by_no-number (omega arith)

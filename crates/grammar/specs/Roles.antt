-- What the code's roles stand for in the grammar, and their numbers in the automaton's table. Definitions only.
use Rattle.std.specs.Prelude.{◌≡◌, ℕ}
use Rattle.grammar.specs.declared.role.Role.{Role as Coded}
use Rattle.grammar.specs.declared.role.Role.TheVariants.{Other, NewName, FirstName, SecondName, BoundDigit, NegatedDigit, DeclarationEnd, AssertEnd, CheckEnd}
use Rattle.grammar.specs.Grammar.{Role, role_no, other, new_name, first_name, second_name, bound_digit, negated_digit, declaration_end, assert_end, check_end}

-- the role of the grammar that the code's stands for
abbrev pub meant : Coded → Role
meant Other = other
meant NewName = new_name
meant FirstName = first_name
meant SecondName = second_name
meant BoundDigit = bound_digit
meant NegatedDigit = negated_digit
meant DeclarationEnd = declaration_end
meant AssertEnd = assert_end
meant CheckEnd = check_end

-- r stands for the role that has this number, if there is one
abbrev pub IsNumbered : ℕ → Coded → Type 0
IsNumbered number r = (ρ : Role) → role_no ρ ≡ number → meant r ≡ ρ

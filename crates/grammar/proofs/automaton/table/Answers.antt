-- `grammar::table` meets its contract: antt computes the test of every entry. Assumes nothing.
use mathlib.Core.Path.{refl}
use Rattle.grammar.specs.Grammar.{role_no, bytes, among, is_a, spelled, blank, gap, parting, opening, closing_as, symbol_as, numeral_as, bound, difference, atom, optional, held, declared, command, set_logic, check_sat, script}
use Rattle.grammar.specs.Place.{ends, live, follow, is_none, choose, after, role_of}
use Rattle.grammar.specs.States.{grown, origins, states}
use Rattle.grammar.specs.Automaton.{role_in}
use Rattle.grammar.proofs.Same.{both, kept, by_number, kind_no, same}
use Rattle.grammar.proofs.Alike.{samples, sample_of, agree, alike}
use Rattle.grammar.proofs.Entries.{every, is_class, is_next, is_row, are_rows, numbered, passes, is-table}
use Rattle.grammar.proofs.automaton.table.Goals as goal

pub invariant_of-result : goal.invariant_of-result
unfolding passes numbered are_rows is_row is_next is_class every same both kept by_number kind_no agree alike samples sample_of role_in grown origins states role_no ends live follow is_none choose after role_of bytes among is_a spelled blank gap parting opening closing_as symbol_as numeral_as bound difference atom optional held declared command set_logic check_sat script
invariant_of-result c = record { is_table = is-table _ refl tt }

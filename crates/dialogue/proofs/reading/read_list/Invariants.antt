-- `read_list` meets its contract: reading what remains into what is left gives the same memory and place. Assumes nothing.
use mathlib.Core.Path.{◌≡◌}
use mathlib.Core.List.{◌++◌}
use lib.ListN.{take, drop}
use Rattle.dialogue.specs.Lists.{after_list, list_from}
use Rattle.dialogue.proofs.reading.read_list.Given as goal

abbrev pub invariant-loop-number : goal.invariant-loop-number
invariant-loop-number g l =
    let read = g.T.Spelled.spelled in
    record {
      value : after_list read l.line l.at l.initial.number-items ≡ after_list read l.line l.to (drop l.number-index l.number-items);
      after : list_from read l.line l.at l.initial.number-items ≡ take l.number-index l.number-items ++ list_from read l.line l.to (drop l.number-index l.number-items);
    }

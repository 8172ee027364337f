use Rattle.std.proofs.Common.{◌≡◌}
use Rattle.dialogue.proofs.Puts.{Remains}
use Rattle.script.proofs.Putting.{atoms}
use Rattle.script.proofs.text.put_atoms.Given as goal

-- the atoms of the triples to come remain
abbrev pub invariant-loop-triple : goal.invariant-loop-triple
invariant-loop-triple l =
    ((goal.iterator-loop-triple).can_next l.triple-iterator × (goal.iterator-loop-triple).is_finite l.triple-iterator)
    × ((l.triple-iterator.size ≡ 3) × Remains l.initial.out l.out (atoms l.triples) (atoms l.triple-iterator.rest.now))

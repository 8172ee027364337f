use Rattle.std.proofs.Common.{◌/◌, ◌≤◌, length, drop}
use lib.Dec.{T}
use Rattle.dialogue.proofs.Puts.{Remains}
use Rattle.meaning.specs.Screen.{stepped}
use Rattle.script.proofs.Putting.{asserts_from}
use Rattle.script.proofs.text.put_asserts.Given as goal

-- the asserts of the clauses to come remain
abbrev pub invariant-loop-count : goal.invariant-loop-count
invariant-loop-count l =
    (l.from ≤ length l.triples / 3)
    × (T (stepped (length l.triples / 3) l.from (drop l.count-index l.counts))
    × Remains l.initial.out l.out (asserts_from l.triples l.counts 0 0) (asserts_from l.triples l.counts l.from l.count-index))

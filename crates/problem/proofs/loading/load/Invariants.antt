use Rattle.meaning.specs.Screen.{alternatives}
use Rattle.problem.proofs.Tables.{Written}
use Rattle.problem.proofs.loading.load.Given as goal

-- after j turns the first j alternatives and their opposites stand in the list
abbrev pub invariant-loop-j : goal.invariant-loop-j
invariant-loop-j l = Written (alternatives 0 l.triples) l.j l.arcs

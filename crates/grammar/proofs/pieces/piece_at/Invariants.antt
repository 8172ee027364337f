-- `grammar::piece_at` meets its contract: the piece so far goes in front of what remains. Assumes nothing.
use Rattle.grammar.specs.Roles.{meant}
use Rattle.grammar.proofs.Parts.{Run}
use Rattle.grammar.proofs.pieces.piece_at.Given as goal

abbrev pub invariant-loop-i : goal.invariant-loop-i
invariant-loop-i l = Run l.text l.at l.state (meant l.role) l.i l.s

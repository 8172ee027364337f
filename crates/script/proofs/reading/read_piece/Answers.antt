-- `script::read_piece` meets its contract: the ends of commands, whose bytes do not matter, are pieces of this text too. Assumes nothing.
use Rattle.script.specs.Reading.{read_piece}
use Rattle.script.proofs.reading.read_piece.Goals as goal

pub returns-in-DeclarationEnd : goal.returns-in-DeclarationEnd
unfolding read_piece
returns-in-DeclarationEnd c = rw c.in-DeclarationEnd.is (c.declaration_end.ensures.took c.args.text.now c.args.piece c.requires)

pub returns-in-AssertEnd : goal.returns-in-AssertEnd
unfolding read_piece
returns-in-AssertEnd c = rw c.in-AssertEnd.is (c.assert_end.ensures.took c.args.text.now c.args.piece c.requires)

pub returns-in-CheckEnd : goal.returns-in-CheckEnd
unfolding read_piece
returns-in-CheckEnd c = rw c.in-CheckEnd.is (c.check_end.ensures.took c.args.text.now c.args.piece c.requires)

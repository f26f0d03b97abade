-- The number is the one that the text says.
use Rattle.program.proofs.witness.number_in.Goals as goal

pub returns : goal.returns
returns c = (c.number_said.result, c.number_said.ensures, c.unwrap_or.ensures)

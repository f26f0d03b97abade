-- The proof of `what_is_excluded_has_no_witness`: the goals that a search leaves open.
use Rattle.command_how_witness.proofs.Never.{no_witness}
use Rattle.command_how_witness.proofs.laws.what_is_excluded_has_no_witness.Goals as goal

pub returns : goal.returns
returns c = no_witness

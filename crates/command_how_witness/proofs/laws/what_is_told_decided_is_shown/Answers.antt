-- The proof of `what_is_told_decided_is_shown`: the goals that a search leaves open.
use Rattle.command_how_witness.proofs.StillDecided.{is_told_decided}
use Rattle.command_how_witness.proofs.laws.what_is_told_decided_is_shown.Goals as goal

pub returns : goal.returns
returns c = is_told_decided

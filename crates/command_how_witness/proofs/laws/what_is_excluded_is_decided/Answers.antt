-- The proof of `what_is_excluded_is_decided`: the goals that a search leaves open.
use Rattle.command_how_witness.proofs.Decided.{only_one}
use Rattle.command_how_witness.proofs.laws.what_is_excluded_is_decided.Goals as goal

pub returns : goal.returns
returns c = only_one

-- The proof of `still_parts_are_decided`: the goals that a search leaves open.
use Rattle.command_how_witness.proofs.StillDecided.{is_decided}
use Rattle.command_how_witness.proofs.laws.still_parts_are_decided.Goals as goal

pub returns : goal.returns
returns c = is_decided

-- The proof of `still_parts_are_decided_with_badge`: the goals that a search leaves open.
use Rattle.command_how_witness.proofs.StillMessages.{is_decided_with_badge}
use Rattle.command_how_witness.proofs.laws.still_parts_are_decided_with_badge.Goals as goal

pub returns : goal.returns
returns c = is_decided_with_badge

-- The proof of `still_parts_can_pass`: the goals that a search leaves open.
use Rattle.command_how_witness.proofs.CanPass.{can_pass}
use Rattle.command_how_witness.proofs.laws.still_parts_can_pass.Goals as goal

pub returns : goal.returns
returns c = can_pass

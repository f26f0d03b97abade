-- The proof of `still_parts_change_no_slot`: the goals that a search leaves open.
use Rattle.command_how_witness.proofs.Still.{no_slot_changes}
use Rattle.command_how_witness.proofs.laws.still_parts_change_no_slot.Goals as goal

pub returns : goal.returns
returns c = no_slot_changes

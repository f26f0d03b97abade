-- The proof of `full_slots_lie_in_live_objects`: the goals that a search leaves open.
use Rattle.kernel_abstract.proofs.Reached.Simulation.{reached_housed}
use Rattle.kernel_abstract.proofs.laws.full_slots_lie_in_live_objects.Goals as goal

pub returns : goal.returns
returns c = reached_housed

-- The proof of `endpoints_alone_change_no_slot`: the goals that a search leaves open.
use Rattle.query_reach.proofs.Idle.{slots_left}
use Rattle.query_reach.proofs.laws.endpoints_alone_change_no_slot.Goals as goal

pub returns : goal.returns
returns c = slots_left

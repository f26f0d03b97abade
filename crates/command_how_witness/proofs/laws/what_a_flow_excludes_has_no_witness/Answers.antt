-- The proof of `what_a_flow_excludes_has_no_witness`: the goals that a search leaves open.
use Rattle.command_how_witness.proofs.ByFlow.{none_by_flow}
use Rattle.command_how_witness.proofs.laws.what_a_flow_excludes_has_no_witness.Goals as goal

pub returns : goal.returns
returns c = none_by_flow

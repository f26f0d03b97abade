-- The proof of `what_status_0_promises`: the goals that a search leaves open.
use Rattle.command_policy_laws.proofs.Status.{promised}
use Rattle.command_policy_laws.proofs.laws.what_status_0_promises.Goals as goal

pub returns : goal.returns
returns c = promised

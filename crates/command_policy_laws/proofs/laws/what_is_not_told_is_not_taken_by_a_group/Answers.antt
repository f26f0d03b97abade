-- The proof of `what_is_not_told_is_not_taken_by_a_group`: the goals that a search leaves open.
use Rattle.command_policy_laws.proofs.Status.{not_taken}
use Rattle.command_policy_laws.proofs.laws.what_is_not_told_is_not_taken_by_a_group.Goals as goal

pub returns : goal.returns
returns c = not_taken

-- The proof of `least_parts_keep_what_larger_keep`: the goals that a search leaves open.
use Rattle.command_policy_laws.proofs.Keeps.{least_keep_most}
use Rattle.command_policy_laws.proofs.laws.least_parts_keep_what_larger_keep.Goals as goal

pub returns : goal.returns
returns c = least_keep_most

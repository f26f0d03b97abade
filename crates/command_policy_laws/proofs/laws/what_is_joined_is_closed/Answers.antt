-- The proof of `what_is_joined_is_closed`: the goals that a search leaves open.
use Rattle.command_policy_laws.proofs.Grants.{joined_closed}
use Rattle.command_policy_laws.proofs.laws.what_is_joined_is_closed.Goals as goal

pub returns : goal.returns
returns c p policy layout v = joined_closed p policy layout v

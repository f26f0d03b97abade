-- The proof of `what_is_kept_is_held`: the goals that a search leaves open.
use Rattle.command_policy_laws.proofs.Keeps.{kept_held}
use Rattle.command_policy_laws.proofs.laws.what_is_kept_is_held.Goals as goal

pub returns : goal.returns
returns c = kept_held

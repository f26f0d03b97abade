-- The proof of `what_is_not_told_is_kept`: the goals that a search leaves open.
use Rattle.command_policy_laws.proofs.Unbroken.{kept_where_untold}
use Rattle.command_policy_laws.proofs.laws.what_is_not_told_is_kept.Goals as goal

pub returns : goal.returns
returns c = kept_where_untold

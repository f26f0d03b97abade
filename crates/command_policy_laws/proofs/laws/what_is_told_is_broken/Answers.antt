-- The proof of `what_is_told_is_broken`: the goals that a search leaves open.
use Rattle.command_policy_laws.proofs.Broken.{told_is_broken}
use Rattle.command_policy_laws.proofs.laws.what_is_told_is_broken.Goals as goal

pub returns : goal.returns
returns c = told_is_broken

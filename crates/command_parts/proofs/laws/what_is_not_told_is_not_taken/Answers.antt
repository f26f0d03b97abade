-- The proof of `what_is_not_told_is_not_taken`: the goals that a search leaves open.
use Rattle.command_parts.proofs.Beneath.{takes_none}
use Rattle.command_parts.proofs.laws.what_is_not_told_is_not_taken.Goals as goal

pub returns : goal.returns
returns c = takes_none

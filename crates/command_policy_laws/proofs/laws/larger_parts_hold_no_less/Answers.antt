-- The proof of `larger_parts_hold_no_less`: the goals that a search leaves open.
use Rattle.command_policy_laws.proofs.Larger.{hold_no_less}
use Rattle.command_policy_laws.proofs.laws.larger_parts_hold_no_less.Goals as goal

pub returns : goal.returns
returns c = hold_no_less

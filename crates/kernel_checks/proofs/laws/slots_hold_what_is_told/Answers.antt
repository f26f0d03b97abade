-- The proof of `slots_hold_what_is_told`: the goal that a search leaves open.
use Rattle.kernel_checks.proofs.Calls.{call_truly}
use Rattle.kernel_checks.proofs.laws.slots_hold_what_is_told.Goals as goal

pub returns : goal.returns
returns c = call_truly

-- The proof of `reason_stands_where_the_reply_is_a_refusal`: the goal that a search leaves open.
use Rattle.kernel_checks.proofs.Calls.{reason_is}
use Rattle.kernel_checks.proofs.laws.reason_stands_where_the_reply_is_a_refusal.Goals as goal

pub returns : goal.returns
returns c = reason_is

-- The proof of `reasons_stand_below_refused_calls`: the goal that a search leaves open.
use Rattle.command_trace.proofs.Refused.{stands_where_refused}
use Rattle.command_trace.proofs.laws.reasons_stand_below_refused_calls.Goals as goal

pub returns : goal.returns
returns c = stands_where_refused

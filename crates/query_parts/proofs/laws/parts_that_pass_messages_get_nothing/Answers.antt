-- The proof of `parts_that_pass_messages_get_nothing`: the goals that a search leaves open.
use Rattle.query_parts.proofs.Passing.{gets_nothing, sends_by_held}
use Rattle.query_parts.proofs.laws.parts_that_pass_messages_get_nothing.Goals as goal

pub returns-clause-slots : goal.returns-clause-slots
returns-clause-slots c = gets_nothing

pub returns-clause-sends : goal.returns-clause-sends
returns-clause-sends c = sends_by_held

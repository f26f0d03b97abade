-- The proof of `parts_of_messages_keep_to_their_uses`: the goals that a search leaves open.
use Rattle.command_parts.proofs.Alone.{keeps_what_it_has, sends_by_told}
use Rattle.command_parts.proofs.laws.parts_of_messages_keep_to_their_uses.Goals as goal

pub returns-clause-slots : goal.returns-clause-slots
returns-clause-slots c = keeps_what_it_has

pub returns-clause-sends : goal.returns-clause-sends
returns-clause-sends c = sends_by_told

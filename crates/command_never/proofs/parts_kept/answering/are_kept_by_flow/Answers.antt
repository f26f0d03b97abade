-- The proof of `are_kept_by_flow`: the goals that a search leaves open.
use Rattle.command_never.proofs.parts_kept.answering.are_kept_by_flow.Goals as goal

pub returns : goal.returns
returns g c is = record { messages = c.in_ok-are.ensures.passes is; names = c.in_ok-are.ensures.names is }

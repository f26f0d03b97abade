-- The proof of `gives_more`: the goals that a search leaves open.
use Rattle.std.proofs.Common.{◌∙◌}
use Rattle.command_parts.proofs.Given.{given_node}
use Rattle.command_parts.proofs.messages.gives_more.Goals as goal

pub returns-in-CNode : goal.returns-in-CNode
returns-in-CNode g c = c.any.ensures ∙ given_node g.P.Profile.profile c.args.part_slots.now c.args.cap _ _ _ c.in-CNode.is

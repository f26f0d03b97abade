-- The proof of `used_endpoint`: the goals that a search leaves open.
use Rattle.command_parts.proofs.Receiving.{used_here}
use Rattle.command_parts.proofs.ways.used_endpoint.Goals as goal

pub returns : goal.returns
returns g c =
    used_here g.P.Profile.profile c.args.memory.now c.args.uses.now c.args.address c.in_ok-memory.memory.items c.as_slice.result.now c.uses_on.result.now
    c.args.parts.now c.in_ok-receivers.receivers.items c.in_ok-memory.ensures c.as_slice.ensures.value c.uses_on.ensures c.requires.parts
    c.in_ok-receivers.ensures

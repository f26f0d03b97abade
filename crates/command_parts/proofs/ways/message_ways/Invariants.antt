use Rattle.std.proofs.Common.{◌≡◌, take}
use Rattle.std.specs.List.{flat_map}
use Rattle.command_parts.specs.Text.{message_ways_from}
use Rattle.command_parts.proofs.ways.message_ways.Given as goal

abbrev pub invariant-loop-from : goal.invariant-loop-from
invariant-loop-from g l = l.ways.items ≡ flat_map (message_ways_from g.P.Profile.profile l.endpoints.memory.now l.endpoints.uses.now l.slots l.alone) (take l.from-index l.numbers)

use Rattle.std.proofs.Common.{◌≡◌, take}
use Rattle.std.specs.List.{flat_map}
use Rattle.command_parts.specs.Text.{ways_from}
use Rattle.command_parts.proofs.ways.ways_by.Given as goal

abbrev pub invariant-loop-from : goal.invariant-loop-from
invariant-loop-from g l = l.ways.items ≡ flat_map (ways_from l.passing g.P.Profile.profile l.endpoints.memory.now l.endpoints.uses.now) (take l.from-index l.parts)

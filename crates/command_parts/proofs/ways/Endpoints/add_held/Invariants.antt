use Rattle.std.proofs.Common.{◌≡◌, ◌++◌, take}
use Rattle.std.specs.List.{flat_map}
use Rattle.command_parts.specs.Text.{endpoints_used, held_ways_on}
use Rattle.command_parts.proofs.ways.Endpoints.add_held.Given as goal

abbrev pub invariant-loop-endpoint : goal.invariant-loop-endpoint
invariant-loop-endpoint g l = l.ways.items ≡ l.initial.ways.items ++ flat_map (held_ways_on g.P.Profile.profile l.self.memory.now l.self.uses.now l.held l.from) (take l.endpoint-index (endpoints_used l.self.uses.now))

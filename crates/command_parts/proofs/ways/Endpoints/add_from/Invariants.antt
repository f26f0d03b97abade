use Rattle.std.proofs.Common.{◌≡◌, ◌++◌, take}
use Rattle.std.specs.List.{flat_map}
use Rattle.command_parts.specs.Text.{endpoints_used, ways_on}
use Rattle.command_parts.proofs.ways.Endpoints.add_from.Given as goal

abbrev pub invariant-loop-endpoint : goal.invariant-loop-endpoint
invariant-loop-endpoint g l = l.ways.items ≡ l.initial.ways.items ++ flat_map (ways_on l.passing g.P.Profile.profile l.self.memory.now l.self.uses.now l.from) (take l.endpoint-index (endpoints_used l.self.uses.now))

use Rattle.std.proofs.Common.{◌≡◌, map, take}
use Rattle.command_parts.specs.Private.Used.{used_on, used_view}
use Rattle.command_parts.proofs.ways.Endpoints.new.Given as goal

abbrev pub invariant-loop-endpoint : goal.invariant-loop-endpoint
invariant-loop-endpoint g l = map used_view l.used.items ≡ map (used_on g.P.Profile.profile l.memory l.list.items) (take l.endpoint-index l.endpoint-items)

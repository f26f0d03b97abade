use Rattle.std.proofs.Common.{◌≡◌, map, take}
use Rattle.command_parts.proofs.ways.endpoints_used.Given as goal

abbrev pub invariant-loop-allowed : goal.invariant-loop-allowed
invariant-loop-allowed l = l.endpoints.items ≡ map (λ u. u.endpoint) (take l.allowed-index l.uses)

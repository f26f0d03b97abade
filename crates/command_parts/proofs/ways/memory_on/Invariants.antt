use Rattle.std.proofs.Common.{◌≡◌, take}
use Rattle.command_parts.specs.Private.Used.{memory_on}
use Rattle.command_parts.proofs.ways.memory_on.Given as goal

abbrev pub invariant-loop-stretch : goal.invariant-loop-stretch
invariant-loop-stretch g l = l.near.items ≡ memory_on g.P.Profile.profile (take l.stretch-index l.memory) l.endpoint

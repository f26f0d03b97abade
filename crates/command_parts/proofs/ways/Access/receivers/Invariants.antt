use Rattle.std.proofs.Common.{◌≡◌, filter, take}
use Rattle.command_parts.specs.Text.{may_part_receive}
use Rattle.command_parts.proofs.ways.Access.receivers.Given as goal

abbrev pub invariant-loop-part : goal.invariant-loop-part
invariant-loop-part g l = l.receivers.items ≡ filter (may_part_receive g.P.Profile.profile l.self.memory.now l.self.uses.now l.endpoint) (take l.part-index l.parts)

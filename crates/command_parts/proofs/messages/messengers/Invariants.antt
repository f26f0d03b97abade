use Rattle.std.proofs.Common.{◌≡◌, filter, take}
use Rattle.command_parts.specs.Messages.{passes_alone}
use Rattle.command_parts.proofs.messages.messengers.Given as goal

abbrev pub invariant-loop-part : goal.invariant-loop-part
invariant-loop-part g l = l.messengers.items ≡ filter (passes_alone g.P.Profile.profile l.part_slots) (take l.part-index l.parts)

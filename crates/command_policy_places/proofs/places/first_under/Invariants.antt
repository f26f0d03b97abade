use Rattle.std.proofs.Common.{◌≡◌, drop}
use Rattle.command_policy_places.specs.Places as spec
use Rattle.command_policy_places.proofs.places.first_under.Given as goal

abbrev pub invariant-loop-slot : goal.invariant-loop-slot
invariant-loop-slot l = spec.first_under l.slots l.take (drop l.slot-index l.slots) ≡ spec.first_under l.slots l.take l.slots

use Rattle.std.proofs.Common.{◌≡◌, ◌-◌, length}
use Rattle.command_policy_places.specs.Places.{nearest}
use Rattle.command_policy_places.proofs.places.nearest.Given as goal

abbrev pub invariant-loop : goal.invariant-loop
invariant-loop l = nearest l.slots l.part (l.end - l.counter) l.above ≡ nearest l.slots l.part (length l.slots) l.fn.from

use Rattle.std.proofs.Common.{◌≡◌, ◌++◌, map, drop}
use Rattle.command_policy_places.specs.Places.{first_looked_at}
use Rattle.command_policy_places.proofs.calls.first_look.Given as goal

abbrev pub invariant-loop-slot : goal.invariant-loop-slot
invariant-loop-slot g l =
    l.fills.items ++ map (first_looked_at l.kernel.derivations) (drop l.slot-index l.slots) ≡ map (first_looked_at l.kernel.derivations) l.slots

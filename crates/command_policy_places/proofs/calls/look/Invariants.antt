use Rattle.std.proofs.Common.{◌≡◌, ◌++◌, map, drop}
use Rattle.command_policy_places.specs.Places.{looked_at}
use Rattle.command_policy_places.proofs.calls.look.Given as goal

abbrev pub invariant-loop-fill : goal.invariant-loop-fill
invariant-loop-fill g l =
    l.fills.items ++ map (looked_at l.made l.kernel.derivations) (drop l.fill-index l.before) ≡ map (looked_at l.made l.kernel.derivations) l.before

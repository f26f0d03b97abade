use Rattle.std.proofs.Common.{◌≡◌, ◌++◌, drop}
use Rattle.std.specs.List.{filter_map}
use Rattle.slot_core.specs.Calls.{derivation_view}
use Rattle.command_policy_breaches.specs.Layouts.{region_of}
use Rattle.command_policy_breaches.proofs.layout.regions.Given as goal

abbrev pub invariant-loop-slot : goal.invariant-loop-slot
invariant-loop-slot g l =
    l.regions.items ++ filter_map (λ d. region_of l.memory (derivation_view g.P.Profile.profile d)) (drop l.slot-index l.slots)
    ≡ filter_map (λ d. region_of l.memory (derivation_view g.P.Profile.profile d)) l.slots

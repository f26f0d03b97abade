use Rattle.std.proofs.Common.{◌≡◌, map, take}
use Rattle.slot_core.specs.declared.derivations.Derivation.{Derivation}
use Rattle.slot_core.specs.Calls.{derivation_view}
use Rattle.command_parts.specs.Takes.{part_slot}
use Rattle.command_policy_places.proofs.sites.with_parts.Given as goal

abbrev pub invariant-loop-row : goal.invariant-loop-row
invariant-loop-row g l = l.slots.items ≡ map (λ (d : Derivation). part_slot l.memory (derivation_view g.P.Profile.profile d)) (take l.row-index l.rows)

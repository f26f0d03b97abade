use Rattle.std.proofs.Common.{◌≡◌, map, take}
use Rattle.slot_core.specs.declared.derivations.Derivation.{Derivation}
use Rattle.slot_core.specs.Calls.{derivation_view}
use Rattle.command_parts.specs.Takes.{part_slot}
use Rattle.command_parts.proofs.takes.part_slots.Given as goal

abbrev pub invariant-loop-derivation : goal.invariant-loop-derivation
invariant-loop-derivation g l = l.slots.items ≡ map (λ (d : Derivation). part_slot l.memory (derivation_view g.P.Profile.profile d)) (take l.derivation-index l.derivation-items)

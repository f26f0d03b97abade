use Rattle.std.proofs.Common.{◌≡◌, false, take}
use Rattle.std.specs.List.{list_any}
use Rattle.setup_layout.specs.declared.layout.Slot.{Slot}
use Rattle.command_import.specs.Laid.{is_number, layout_slot_address}
use Rattle.command_import.proofs.laid_out.is_said.Given as goal

abbrev pub invariant-loop-slot : goal.invariant-loop-slot
invariant-loop-slot g l = list_any (λ (slot : Slot). is_number l.address (layout_slot_address g.P.Profile.profile l.objects slot)) (take l.slot-index l.slots) ≡ false

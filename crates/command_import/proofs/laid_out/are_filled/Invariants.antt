use Rattle.std.proofs.Common.{◌≡◌, true, take}
use Rattle.std.specs.List.{list_all}
use Rattle.command_import.specs.Laid.{is_slot_filled}
use Rattle.command_import.proofs.laid_out.are_filled.Given as goal

abbrev pub invariant-loop-slot : goal.invariant-loop-slot
invariant-loop-slot g l = list_all (is_slot_filled g.P.Profile.profile l.objects l.kernel.derivations) (take l.slot-index l.slots) ≡ true

use Rattle.std.proofs.Common.{◌≡◌, false, take}
use Rattle.std.specs.List.{list_any}
use Rattle.command_how_witness.specs.Private.{is_slot_within}
use Rattle.command_how_witness.proofs.excluded.has_one_of.Given as goal

abbrev pub invariant-loop-slot : goal.invariant-loop-slot
invariant-loop-slot l = list_any (is_slot_within l.memory l.part) (take l.slot-index l.slots) ≡ false

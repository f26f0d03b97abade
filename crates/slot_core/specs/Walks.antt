-- The slots on a stack as rows of the list, the last of them first.
use Rattle.std.specs.Prelude.{List, map, reverse}
use Rattle.kernel_forest.specs.Marked.{Marked}
use Rattle.slot_core.specs.declared.slot.Slot.{Slot}
use Rattle.slot_core.specs.declared.linked.table.Link.{Link}
use Rattle.slot_core.specs.Links.{row_of}

abbrev pub stack_of : List Link → List Slot → List Marked
stack_of links above = map (λ (s : Slot). row_of links s.place) (reverse above)

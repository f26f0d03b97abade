use Rattle.std.proofs.Common.{◌≡◌, ◌++◌, take, string_bytes}
use Rattle.std.specs.List.{flat_map}
use Rattle.command_import.specs.Listing.{listing_line}
use Rattle.command_import.proofs.listing.add_slots.Given as goal

abbrev pub invariant-loop-slot : goal.invariant-loop-slot
invariant-loop-slot l = string_bytes l.out ≡ string_bytes l.initial.out ++ flat_map (listing_line l.prefix l.objects) (take l.slot-index l.slots)

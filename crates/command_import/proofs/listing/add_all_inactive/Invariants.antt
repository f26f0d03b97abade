use Rattle.std.proofs.Common.{◌≡◌, ◌++◌, take, string_bytes}
use Rattle.std.specs.List.{flat_map}
use Rattle.command_import.specs.Listing.{inactive_line}
use Rattle.command_import.proofs.listing.add_all_inactive.Given as goal

abbrev pub invariant-loop-object : goal.invariant-loop-object
invariant-loop-object l = string_bytes l.out ≡ string_bytes l.initial.out ++ flat_map (inactive_line l.prefix) (take l.object-index l.objects)

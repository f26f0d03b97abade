use Rattle.std.proofs.Common.{◌≡◌, ◌++◌, map, string_bytes}
use Rattle.std.specs.List.{flat_map}
use Rattle.std.specs.Map.Iter.{deref}
use Rattle.setup_report.specs.Naming.{naming_view}
use Rattle.command_audit.specs.Ends.{region_line}
use Rattle.command_audit.proofs.ends.add_sizes.Given as goal

abbrev pub invariant-loop-bits : goal.invariant-loop-bits
invariant-loop-bits l = string_bytes l.out ≡ string_bytes l.initial.out ++ flat_map (region_line (naming_view l.naming) l.address) (map deref l.yielded)

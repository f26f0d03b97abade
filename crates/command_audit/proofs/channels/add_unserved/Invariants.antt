use Rattle.std.proofs.Common.{◌≡◌, ◌++◌, map, string_bytes}
use Rattle.std.specs.List.{flat_map}
use Rattle.std.specs.Map.Iter.{deref}
use Rattle.setup_report.specs.Naming.{naming_view}
use Rattle.command_audit.specs.Channels.{unserved_lines}
use Rattle.command_audit.proofs.channels.add_unserved.Given as goal

abbrev pub invariant-loop-endpoint : goal.invariant-loop-endpoint
invariant-loop-endpoint l = string_bytes l.out ≡ string_bytes l.initial.out ++ flat_map (unserved_lines (naming_view l.naming) l.words) (map deref l.yielded)

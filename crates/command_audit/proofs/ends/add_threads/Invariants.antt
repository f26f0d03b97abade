use Rattle.std.proofs.Common.{◌≡◌, ◌++◌, map, string_bytes}
use Rattle.std.specs.List.{flat_map}
use Rattle.std.specs.Map.Iter.{deref}
use Rattle.setup_report.specs.Naming.{naming_view}
use Rattle.command_audit.specs.Ends.{ended_thread_line}
use Rattle.command_audit.proofs.ends.add_threads.Given as goal

abbrev pub invariant-loop-address : goal.invariant-loop-address
invariant-loop-address l = string_bytes l.out ≡ string_bytes l.initial.out ++ flat_map (ended_thread_line (naming_view l.naming)) (map deref l.yielded)

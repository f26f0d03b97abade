use Rattle.std.proofs.Common.{◌≡◌, ◌++◌, take, string_bytes}
use Rattle.std.specs.List.{flat_map}
use Rattle.setup_report.specs.Naming.{naming_view}
use Rattle.command_audit.specs.Threads.{slots_lines}
use Rattle.command_audit.proofs.threads.add_threads.Given as goal

abbrev pub invariant-loop-slots : goal.invariant-loop-slots
invariant-loop-slots g l = string_bytes l.out ≡ string_bytes l.initial.out ++ flat_map (slots_lines (naming_view l.naming) l.kernel l.list) (take l.slots-index l.list)

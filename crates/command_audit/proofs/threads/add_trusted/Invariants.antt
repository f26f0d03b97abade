use Rattle.std.proofs.Common.{◌≡◌, ◌++◌, take, string_bytes}
use Rattle.std.specs.List.{flat_map}
use Rattle.setup_report.specs.Naming.{naming_view}
use Rattle.command_audit.specs.Threads.{trusted_line}
use Rattle.command_audit.proofs.threads.add_trusted.Given as goal

abbrev pub invariant-loop-thread : goal.invariant-loop-thread
invariant-loop-thread l = string_bytes l.out ≡ string_bytes l.initial.out ++ flat_map (trusted_line (naming_view l.naming)) (take l.thread-index l.trusted)

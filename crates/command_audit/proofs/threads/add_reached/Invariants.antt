use Rattle.std.proofs.Common.{◌≡◌, ◌++◌, take, string_bytes}
use Rattle.std.specs.List.{flat_map}
use Rattle.setup_report.specs.Naming.{naming_view}
use Rattle.command_audit.specs.Threads.{reach_line}
use Rattle.command_audit.proofs.threads.add_reached.Given as goal

abbrev pub invariant-loop-reached : goal.invariant-loop-reached
invariant-loop-reached g l = string_bytes l.out ≡ string_bytes l.initial.out ++ flat_map (reach_line (naming_view l.naming) l.kernel.derivations l.thread) (take l.reached-index l.list)

use Rattle.std.proofs.Common.{◌≡◌, ◌++◌, take, string_bytes}
use Rattle.std.specs.List.{flat_map}
use Rattle.setup_report.specs.Naming.{naming_view}
use Rattle.command_audit.specs.Threads.{hold_line}
use Rattle.command_audit.proofs.threads.add_held.Given as goal

abbrev pub invariant-loop-held : goal.invariant-loop-held
invariant-loop-held g l = string_bytes l.out ≡ string_bytes l.initial.out ++ flat_map (hold_line (naming_view l.naming) l.kernel.derivations l.thread) (take l.held-index l.list)

use Rattle.std.proofs.Common.{◌≡◌, ◌++◌, take, string_bytes}
use Rattle.std.specs.List.{flat_map}
use Rattle.setup_report.specs.Naming.{naming_view}
use Rattle.command_audit.specs.Channels.{receiver_line}
use Rattle.command_audit.proofs.channels.add_receivers.Given as goal

abbrev pub invariant-loop-receiver : goal.invariant-loop-receiver
invariant-loop-receiver l = string_bytes l.out ≡ string_bytes l.initial.out ++ flat_map (receiver_line (naming_view l.naming)) (take l.receiver-index l.list)

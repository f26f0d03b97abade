use Rattle.std.proofs.Common.{◌≡◌, ◌++◌, take, string_bytes}
use Rattle.std.specs.List.{flat_map}
use Rattle.setup_report.specs.Naming.{naming_view}
use Rattle.command_audit.specs.Channels.{channel_line}
use Rattle.command_audit.proofs.channels.add_senders.Given as goal

abbrev pub invariant-loop-channel : goal.invariant-loop-channel
invariant-loop-channel l = string_bytes l.out ≡ string_bytes l.initial.out ++ flat_map (channel_line (naming_view l.naming)) (take l.channel-index l.list)

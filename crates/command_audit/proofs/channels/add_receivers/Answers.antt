use Rattle.std.proofs.Common.{string_bytes}
use Rattle.setup_report.specs.Naming.{naming_view}
use Rattle.command_audit.specs.Channels.{receiver_line}
use Rattle.setup_report.proofs.Joined.{flat_step}
use Rattle.command_audit.proofs.channels.add_receivers.Goals as goal

pub loop-receiver-preserved : goal.loop-receiver-preserved
loop-receiver-preserved c =
    flat_step (receiver_line (naming_view c.args.naming.now)) c.args.list.now c.loop-receiver.receiver-index _ (string_bytes c.args.out.now) _ _ c.loop-receiver-test.true c.loop-receiver.invariant c.in_ok-add_receiver.ensures

use Rattle.std.proofs.Common.{string_bytes}
use Rattle.std.specs.Map.Iter.{deref}
use Rattle.setup_report.specs.Naming.{naming_view}
use Rattle.command_audit.specs.Ends.{ended_endpoint_line}
use Rattle.command_audit.proofs.Joined.{flat_yielded}
use Rattle.command_audit.proofs.ends.add_endpoints.Goals as goal

pub loop-address-preserved : goal.loop-address-preserved
loop-address-preserved c =
    flat_yielded (ended_endpoint_line (naming_view c.args.naming.now)) deref c.loop-address.yielded c.in-Some.address (string_bytes c.args.out.now) _ _ c.loop-address.invariant c.in_ok-add_object.ensures

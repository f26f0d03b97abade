use Rattle.std.proofs.Common.{string_bytes}
use Rattle.std.specs.Map.Iter.{deref}
use Rattle.setup_report.specs.Naming.{naming_view}
use Rattle.command_audit.specs.Ends.{region_line}
use Rattle.command_audit.proofs.Joined.{flat_yielded}
use Rattle.command_audit.proofs.ends.add_sizes.Goals as goal

pub loop-bits-preserved : goal.loop-bits-preserved
loop-bits-preserved c =
    flat_yielded (region_line (naming_view c.args.naming.now) c.args.address) deref c.loop-bits.yielded c.in-Some.bits (string_bytes c.args.out.now) _ _ c.loop-bits.invariant c.in_ok-add_region.ensures

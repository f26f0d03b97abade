use Rattle.std.proofs.Common.{◌≡◌, ◌++◌, drop}
use Rattle.query_orders.specs.Found.{stuck_of}
use Rattle.command_explore.proofs.report.groups.add_stuck_of.Given as goal

abbrev pub invariant-loop-end : goal.invariant-loop-end
invariant-loop-end l =
    stuck_of l.out.items ++ stuck_of (drop l.end-index l.ends) ≡ stuck_of l.fn.out.items ++ stuck_of l.ends

use Rattle.std.proofs.Common.{◌≡◌, ◌+◌, drop}
use Rattle.query_orders.specs.Found.{stuck_of}
use Rattle.command_explore.specs.Witnesses as spec
use Rattle.command_explore.proofs.report.witness.stuck_numbered.Given as goal

abbrev pub invariant-loop-i : goal.invariant-loop-i
invariant-loop-i l = spec.stuck_numbered l.wanted (l.i + 1) (stuck_of (drop l.i l.stuck)) ≡ spec.stuck_numbered l.wanted 1 (stuck_of l.stuck)

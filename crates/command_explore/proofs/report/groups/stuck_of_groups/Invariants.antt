use Rattle.std.proofs.Common.{◌≡◌, ◌++◌, drop, map}
use Rattle.query_orders.specs.Found.{stuck_of}
use Rattle.command_explore.specs.Groups.{group_view, group_stuck}
use Rattle.command_explore.proofs.report.groups.stuck_of_groups.Given as goal

abbrev pub invariant-loop-group : goal.invariant-loop-group
invariant-loop-group l =
    stuck_of l.stuck.items ++ group_stuck (map group_view (drop l.group-index l.explored)) ≡ group_stuck (map group_view l.explored)

use Rattle.std.proofs.Common.{◌≡◌, drop, map}
use Rattle.command_explore.specs.Groups.{group_view, are_whole}
use Rattle.command_explore.proofs.report.groups.are_whole.Given as goal

abbrev pub invariant-loop-group : goal.invariant-loop-group
invariant-loop-group l =
    are_whole (map group_view (drop l.group-index l.explored)) ≡ are_whole (map group_view l.explored)

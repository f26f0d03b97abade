use Rattle.std.proofs.Common.{◌≡◌, ◌++◌, string_bytes, take}
use Rattle.std.specs.List.{flat_map}
use Rattle.query_orders.specs.declared.groups.exploring.GroupExplored.{GroupExplored}
use Rattle.command_explore.specs.Groups.{group_view, group_line}
use Rattle.command_explore.proofs.report.groups.add_groups.Given as goal

abbrev pub invariant-loop-group : goal.invariant-loop-group
invariant-loop-group l =
    string_bytes l.out ≡ string_bytes l.fn.out ++ flat_map (λ (g : GroupExplored). group_line l.first l.limit l.groups (group_view g)) (take l.group-index l.explored)

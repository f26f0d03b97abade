use Rattle.std.proofs.Common.{◌≡◌, ◌++◌, drop, map}
use Rattle.query_orders.specs.Found.{answers_of}
use Rattle.command_explore.specs.Groups.{group_view, group_answers}
use Rattle.command_explore.proofs.report.groups.answers_of_groups.Given as goal

abbrev pub invariant-loop-group : goal.invariant-loop-group
invariant-loop-group l =
    answers_of l.answers.items ++ group_answers l.groups (map group_view (drop l.group-index l.explored)) ≡ group_answers l.groups (map group_view l.explored)

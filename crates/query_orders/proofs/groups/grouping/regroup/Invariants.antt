use Rattle.std.proofs.Common.{◌≡◌, ◌++◌, map, take, drop}
use Rattle.query_orders.specs.Private.Grouping.{regrouped}
use Rattle.query_orders.proofs.groups.grouping.regroup.Given as goal

abbrev pub invariant-loop-group : goal.invariant-loop-group
invariant-loop-group l = l.groups ≡ map (regrouped l.from l.to) (take l.group-index l.initial.groups) ++ drop l.group-index l.initial.groups

use Rattle.std.proofs.Common.{◌≡◌}
use Rattle.query_orders.specs.Orders.{numbers_below}
use Rattle.query_orders.proofs.groups.grouping.single.Given as goal

abbrev pub invariant-loop-client : goal.invariant-loop-client
invariant-loop-client l = l.groups.items ≡ numbers_below l.client

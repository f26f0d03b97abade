use Rattle.std.proofs.Common.{◌≡◌, map}
use Rattle.query_orders.specs.Nodes.{own_calls}
use Rattle.query_orders.specs.Orders.{numbers_below}
use Rattle.query_orders.specs.Private.Grouping.{objects_by, object_lists}
use Rattle.query_orders.proofs.groups.clients.objects_of_clients.Given as goal

abbrev pub invariant-loop-client : goal.invariant-loop-client
invariant-loop-client g l =
    object_lists l.lists.items ≡ map (objects_by g.P.Profile.profile (own_calls l.calls) l.made l.waits l.kernel) (numbers_below l.client)

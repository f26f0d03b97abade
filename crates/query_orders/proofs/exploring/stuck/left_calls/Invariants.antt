use Rattle.std.proofs.Common.{◌≡◌}
use Rattle.std.specs.List.{flat_map}
use Rattle.query_orders.specs.World.{next_client_call}
use Rattle.query_orders.specs.Orders.{numbers_below}
use Rattle.query_orders.specs.Ends.{left_call}
use Rattle.query_orders.specs.Nodes.{own_calls}
use Rattle.query_orders.proofs.exploring.stuck.left_calls.Given as goal

abbrev pub invariant-loop-client : goal.invariant-loop-client
invariant-loop-client g l =
    l.left.items ≡ flat_map (λ client. left_call l.at l.node.made.items client (next_client_call (own_calls l.calls) l.node.made.items client)) (numbers_below l.client)

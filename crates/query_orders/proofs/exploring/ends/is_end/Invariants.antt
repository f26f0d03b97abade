use Rattle.std.proofs.Common.{◌≡◌}
use Rattle.std.specs.List.{list_any}
use Rattle.query_orders.specs.World.{next_client_call, can_be_made}
use Rattle.query_orders.specs.Orders.{numbers_below}
use Rattle.query_orders.specs.Nodes.{own_calls}
use Rattle.query_orders.proofs.exploring.ends.is_end.Given as goal

abbrev pub invariant-loop-client : goal.invariant-loop-client
invariant-loop-client g l = l.any ≡ list_any (λ client. can_be_made l.at (next_client_call (own_calls l.calls) l.node.made.items client)) (numbers_below l.client)

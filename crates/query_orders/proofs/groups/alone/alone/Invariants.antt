use Rattle.std.proofs.Common.{◌≡◌, [], map}
use Rattle.std.specs.Prelude.{unwrap_or}
use Rattle.std.specs.List.{slice_get}
use Rattle.query_orders.specs.Groups.{is_client_in, calls_left_in}
use Rattle.query_orders.specs.Nodes.{own_calls}
use Rattle.query_orders.specs.Orders.{numbers_below}
use Rattle.query_orders.proofs.groups.alone.alone.Given as goal

abbrev pub invariant-loop-client : goal.invariant-loop-client
invariant-loop-client l =
    own_calls l.lone.items ≡ map (λ client. calls_left_in l.made (is_client_in l.groups l.group) client (unwrap_or (slice_get (own_calls l.calls) client) [])) (numbers_below l.client)

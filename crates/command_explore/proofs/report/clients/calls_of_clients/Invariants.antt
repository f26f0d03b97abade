use Rattle.std.proofs.Common.{◌≡◌, map}
use Rattle.query_orders.specs.Orders.{numbers_below}
use Rattle.query_orders.specs.Nodes.{own_calls}
use Rattle.command_explore.specs.Clients.{calls_of_client}
use Rattle.command_explore.proofs.report.clients.calls_of_clients.Given as goal

abbrev pub invariant-loop-client : goal.invariant-loop-client
invariant-loop-client l = own_calls l.lists.items ≡ map (calls_of_client l.setup.calls) (numbers_below l.client)

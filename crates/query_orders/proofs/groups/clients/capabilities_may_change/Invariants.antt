use Rattle.std.proofs.Common.{◌≡◌, not}
use Rattle.std.specs.List.{list_any}
use Rattle.kernel_abstract.specs.declared.call.Call.{Call}
use Rattle.query_orders.specs.Groups.{keeps_capabilities, calls_left}
use Rattle.query_orders.specs.Nodes.{own_calls}
use Rattle.query_orders.specs.Orders.{numbers_below}
use Rattle.query_orders.proofs.groups.clients.capabilities_may_change.Given as goal

abbrev pub invariant-loop-client : goal.invariant-loop-client
invariant-loop-client l =
    l.any ≡ list_any (λ client. list_any (λ (call : Call). not (keeps_capabilities call.op)) (calls_left (own_calls l.calls) l.made client)) (numbers_below l.client)

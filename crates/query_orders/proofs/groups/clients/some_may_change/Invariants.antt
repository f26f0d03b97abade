use Rattle.std.proofs.Common.{◌≡◌, false, not, take}
use Rattle.std.specs.List.{list_any}
use Rattle.kernel_abstract.specs.declared.call.Call.{Call}
use Rattle.query_orders.specs.Groups.{keeps_capabilities}
use Rattle.query_orders.proofs.groups.clients.some_may_change.Given as goal

abbrev pub invariant-loop-call : goal.invariant-loop-call
invariant-loop-call l = list_any (λ (call : Call). not (keeps_capabilities call.op)) (take l.call-index l.calls) ≡ false

use Rattle.std.proofs.Common.{◌≡◌, ◌++◌, ◌==◌, map, filter, take}
use Rattle.query_orders.specs.declared.answer.WaitingCall.{WaitingCall}
use Rattle.query_orders.specs.Groups.{object_of}
use Rattle.query_orders.proofs.groups.clients.note_waiting.Given as goal

abbrev pub invariant-loop-call : goal.invariant-loop-call
invariant-loop-call g l =
    l.objects.items ≡ l.fn.objects.items ++ map (λ (call : WaitingCall). object_of l.kernel call.thread) (filter (λ (call : WaitingCall). call.client == l.client) (take l.call-index l.waits))

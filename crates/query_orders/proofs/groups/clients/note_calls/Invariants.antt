use Rattle.std.proofs.Common.{◌≡◌, ◌++◌, take}
use Rattle.std.specs.List.{flat_map}
use Rattle.query_orders.specs.Groups.{objects_of_call}
use Rattle.query_orders.proofs.groups.clients.note_calls.Given as goal

abbrev pub invariant-loop-call : goal.invariant-loop-call
invariant-loop-call g l = l.objects.items ≡ l.fn.objects.items ++ flat_map (objects_of_call g.P.Profile.profile l.kernel) (take l.call-index l.calls)

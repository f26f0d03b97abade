use Rattle.std.proofs.Common.{◌≡◌, false, take}
use Rattle.std.specs.List.{list_any}
use Rattle.query_orders.specs.declared.groups.objects.CallObject.{CallObject}
use Rattle.query_orders.specs.Groups.{is_same_object}
use Rattle.query_orders.proofs.groups.clients.share.Given as goal

abbrev pub invariant-loop-object : goal.invariant-loop-object
invariant-loop-object l = list_any (λ (x : CallObject). list_any (is_same_object x) l.others) (take l.object-index l.objects) ≡ false

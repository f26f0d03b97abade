use Rattle.std.proofs.Common.{◌≡◌, false, take}
use Rattle.std.specs.List.{list_any}
use Rattle.query_orders.specs.Groups.{is_same_object}
use Rattle.query_orders.proofs.groups.clients.is_among.Given as goal

abbrev pub invariant-loop-other : goal.invariant-loop-other
invariant-loop-other l = list_any (is_same_object l.object) (take l.other-index l.others) ≡ false

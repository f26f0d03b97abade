use Rattle.query_orders.specs.Private.Grouping.{object_lists, touch_alike, AreGrouped}
use Rattle.query_orders.proofs.groups.grouping.join_client.Given as goal

abbrev pub invariant-loop-b : goal.invariant-loop-b
invariant-loop-b l =
    AreGrouped (touch_alike l.may_change (object_lists l.objects)) l.a 0 l.fn.groups
    → AreGrouped (touch_alike l.may_change (object_lists l.objects)) l.a l.b l.groups

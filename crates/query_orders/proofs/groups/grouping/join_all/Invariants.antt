use Rattle.query_orders.specs.Private.Grouping.{object_lists, touch_alike, AreGrouped}
use Rattle.query_orders.proofs.groups.grouping.join_all.Given as goal

abbrev pub invariant-loop-a : goal.invariant-loop-a
invariant-loop-a l =
    AreGrouped (touch_alike l.may_change (object_lists l.objects)) 0 0 l.fn.groups
    → AreGrouped (touch_alike l.may_change (object_lists l.objects)) l.a 0 l.groups

use Rattle.std.proofs.Common.{◌≡◌, ℕ, length, subst, arith}
use Rattle.query_orders.specs.Private.Grouping.{object_lists, touch_alike, AreGrouped}
use Rattle.query_orders.proofs.groups.grouping.join_all.Goals as goal

pub loop-a-preserved : goal.loop-a-preserved
loop-a-preserved c start = c.join_client.ensures (c.loop-a.invariant start)

pub returns : goal.returns
returns c start =
    let end : c.loop-a.a ≡ length c.args.objects.now = omega arith in
    subst (λ (n : ℕ). AreGrouped (touch_alike c.args.may_change (object_lists c.args.objects.now)) n 0 c.loop-a.groups) end (c.loop-a.invariant start)

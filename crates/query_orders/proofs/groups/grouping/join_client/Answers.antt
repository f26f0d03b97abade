use Rattle.std.proofs.Common.{◌<◌, ◌≤◌, ◌+◌, ℕ, List, length, sym, subst, ◌∙◌, arith}
use Rattle.query_orders.specs.Private.Grouping.{object_lists, touch_alike, AreGrouped}
use Rattle.query_orders.proofs.Grouped.Joins.{passed, next_client}
use Rattle.query_orders.proofs.groups.grouping.join_client.Goals as goal
use Rattle.query_orders.proofs.groups.grouping.join_client.Goals.{then-are_together, else-are_together}

pub loop-b-preserved : goal.loop-b-preserved
loop-b-preserved c start =
    let together = touch_alike c.args.may_change (object_lists c.args.objects.now) in
    let a_in : c.args.a < length c.loop-b.groups = omega arith in
    let b_in : c.loop-b.b < length c.loop-b.groups = omega arith in
    let so_far = c.loop-b.invariant start in
    elim c.if-are_together.branch [
      | then-are_together w ↦ subst (λ (l : List ℕ). AreGrouped together c.args.a (c.loop-b.b + 1) l) (sym w.groups-is)
          (w.join.ensures together a_in b_in (sym c.are_together.ensures ∙ w.if-are_together.true) so_far)
      | else-are_together w ↦ subst (λ (l : List ℕ). AreGrouped together c.args.a (c.loop-b.b + 1) l) (sym w.groups-is)
          (passed together c.loop-b.groups c.args.a c.loop-b.b (sym c.are_together.ensures ∙ w.if-are_together.false) so_far)
    ]

pub returns : goal.returns
returns c start =
    let together = touch_alike c.args.may_change (object_lists c.args.objects.now) in
    let all : length c.loop-b.groups ≤ c.loop-b.b = omega arith in
    next_client together c.loop-b.groups c.args.a c.loop-b.b all (c.loop-b.invariant start)

use Rattle.std.proofs.Common.{◌≡◌, ◌≤◌, ◌+◌, ℕ, List, map, ap, sym, subst, ◌∙◌, arith}
use Rattle.query_orders.specs.Groups.{group_of_client}
use Rattle.query_orders.specs.Private.Grouping.{regrouped, AreGrouped}
use Rattle.query_orders.proofs.Grouped.Joins.{join_up, join_down}
use Rattle.query_orders.proofs.groups.grouping.join.Goals as goal

pub returns-then-one-other : goal.returns-then-one-other
returns-then-one-other c together ha hb t g =
    let groups = c.args.groups.now in
    let le : group_of_client groups c.args.a ≤ group_of_client groups c.args.b = omega arith in
    let is : c.regroup.new.groups ≡ map (regrouped (group_of_client groups c.args.b) (group_of_client groups c.args.a)) groups =
    c.regroup.ensures ∙ ap (λ n. map (regrouped n c.group_of-one.result) groups) c.group_of-other.ensures
    ∙ ap (λ n. map (regrouped (group_of_client groups c.args.b) n) groups) c.group_of-one.ensures in
    subst (λ (l : List ℕ). AreGrouped together c.args.a (c.args.b + 1) l) (sym is) (join_up together groups c.args.a c.args.b ha hb t le g)

pub returns-else-one-other : goal.returns-else-one-other
returns-else-one-other c together ha hb t g =
    let groups = c.args.groups.now in
    let le : group_of_client groups c.args.b ≤ group_of_client groups c.args.a = omega arith in
    let is : c.regroup-else-one-other.new.groups ≡ map (regrouped (group_of_client groups c.args.a) (group_of_client groups c.args.b)) groups =
    c.regroup-else-one-other.ensures ∙ ap (λ n. map (regrouped n c.group_of-other.result) groups) c.group_of-one.ensures
    ∙ ap (λ n. map (regrouped (group_of_client groups c.args.a) n) groups) c.group_of-other.ensures in
    subst (λ (l : List ℕ). AreGrouped together c.args.a (c.args.b + 1) l) (sym is) (join_down together groups c.args.a c.args.b ha hb t le g)

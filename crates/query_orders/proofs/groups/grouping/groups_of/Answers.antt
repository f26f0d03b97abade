use Rattle.std.proofs.Common.{◌≡◌, ℕ, List, map, length, ap, sym, subst, ◌∙◌, arith}
use Rattle.std.specs.Global.{Vec}
use Rattle.std.proofs.lemmas.List.{length-map, with_items_is}
use Rattle.kernel_abstract.specs.Shown.{Shown}
use Rattle.query_orders.specs.declared.answer.WaitingCall.{WaitingCall}
use Rattle.query_orders.specs.declared.groups.objects.CallObject.{CallObject}
use Rattle.kernel_abstract.specs.State.{shown}
use Rattle.query_orders.specs.Groups.{capabilities_may_change, AreGroups}
use Rattle.query_orders.specs.Nodes.{own_calls}
use Rattle.query_orders.specs.Orders.{numbers_below}
use Rattle.query_orders.specs.Private.Grouping.{objects_by, object_lists, touch_alike, AreGrouped}
use Rattle.query_orders.proofs.Grouped.Lists.{length-below}
use Rattle.query_orders.proofs.Grouped.Finest.{single, groups_are}
use Rattle.query_orders.proofs.groups.grouping.groups_of.Goals as goal

pub returns : goal.returns
returns g c w made waits kernel =
    let p = g.P.Profile.profile in
    let own = own_calls c.args.calls.now in
    let n = length c.args.calls.now in
    let may_change = c.capabilities_may_change-may_change.result in
    let lists = object_lists c.as_slice.result.now in
    let many : length own ≡ n = length-map c.args.calls.now _ in
    let objects_are : lists ≡ map (objects_by p own w.made w.waits (shown w.kernel)) (numbers_below (length own)) =
    ap object_lists c.as_slice.ensures.value ∙ c.in_ok-objects.ensures
    ∙ ap (λ (k : ℕ). map (objects_by p own c.args.made.now c.args.waits.now c.args.kernel.now) (numbers_below k)) (sym many)
    ∙ ap (λ (l : List ℕ). map (objects_by p own l c.args.waits.now c.args.kernel.now) (numbers_below (length own))) made
    ∙ ap (λ (l : List WaitingCall). map (objects_by p own w.made l c.args.kernel.now) (numbers_below (length own))) waits
    ∙ ap (λ (v : Shown). map (objects_by p own w.made w.waits v) (numbers_below (length own))) kernel in
    let lists_many : length c.as_slice.result.now ≡ length own =
    sym (length-map c.as_slice.result.now (λ (v : Vec CallObject). v.items)) ∙ ap (λ (l : List (List CallObject)). length l) objects_are
    ∙ length-map (numbers_below (length own)) (objects_by p own w.made w.waits (shown w.kernel)) ∙ length-below (length own) in
    let begun : c.as_mut_slice.result.now ≡ numbers_below n = c.as_mut_slice.ensures.value ∙ c.in_ok-groups.ensures in
    let begun_many : length c.as_mut_slice.result.now ≡ n = ap (λ (l : List ℕ). length l) begun ∙ length-below n in
    let groups_many : length c.join_all.new.groups ≡ length own = omega (arith, begun_many, many) in
    let done = c.join_all.ensures (subst (λ (l : List ℕ). AreGrouped (touch_alike may_change lists) 0 0 l) (sym begun) (single (touch_alike may_change lists) n)) in
    subst (λ (l : List ℕ). AreGroups p own w l) (sym (with_items_is c.in_ok-groups.groups c.join_all.new.groups (omega arith)))
    (groups_are p own w may_change lists c.join_all.new.groups (c.capabilities_may_change-may_change.ensures ∙ ap (capabilities_may_change own) made) objects_are groups_many
    (subst (λ (k : ℕ). AreGrouped (touch_alike may_change lists) k 0 c.join_all.new.groups) lists_many done))

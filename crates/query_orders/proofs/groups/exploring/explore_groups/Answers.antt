use Rattle.std.proofs.Common.{◌≡◌, ℕ, List, ap, subst, ◌∙◌}
use Rattle.std.specs.List.{AllByRecursion as Each}
use Rattle.kernel_abstract.specs.State.{shown}
use Rattle.query_orders.specs.contracts.answer.AnswerPartialEq.TheImpl as answer_eq
use Rattle.query_orders.specs.declared.groups.exploring.GroupExplored.{GroupExplored}
use Rattle.query_orders.specs.World.{start, world_after}
use Rattle.query_orders.specs.Groups.{is_client_in, first_of_groups, alone}
use Rattle.query_orders.specs.Nodes.{own_calls}
use Rattle.query_orders.specs.Explorations.{IsExplored}
use Rattle.query_orders.proofs.groups.exploring.explore_groups.Goals as goal

pub returns : goal.returns
returns g c A r k =
    let p = g.P.Profile.profile in
    let own = own_calls c.args.calls.now in
    let first = c.args.first.now in
    let after = λ (order : List ℕ). world_after p own (start own A) order in
    let w = after first in
    let begun = c.in_ok-node.ensures A r (c.in_ok-at.ensures ∙ k) in
    let node = begun.0.is in
    let order = begun.0.order_is in
    let made : c.as_slice-made.result.now ≡ w.made = c.as_slice-made.ensures.value ∙ node.made_is ∙ ap (λ (o : List ℕ). (after o).made) order in
    let waits : c.as_slice.result.now ≡ w.waits = c.as_slice.ensures.value ∙ node.waits_are ∙ ap (λ (o : List ℕ). (after o).waits) order in
    let kernel : c.begin.new.at ≡ shown w.kernel = begun.1 ∙ ap (λ (o : List ℕ). shown (after o).kernel) order in
    let groups : c.as_slice-list.result.now ≡ c.in_ok-groups.groups.items = c.as_slice-list.ensures.value in
    let Gives = λ (made groups : List ℕ) (e : GroupExplored). IsExplored p (alone own made (is_client_in groups e.first)) A first answer_eq.ghosts.eq c.args.limit c.args.count e.explored in
    record {
      groups_are = c.in_ok-groups.ensures w made waits kernel;
      firsts_are = c.in_ok-explored.ensures.firsts ∙ ap first_of_groups groups;
      explored_are =
          subst (λ (l : List ℕ). Each (Gives l c.in_ok-groups.groups.items) c.in_ok-explored.explored.items) made
          (subst (λ (l : List ℕ). Each (Gives c.as_slice-made.result.now l) c.in_ok-explored.explored.items) groups (c.in_ok-explored.ensures.explored A r k));
    }

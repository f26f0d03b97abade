use Rattle.std.proofs.Common.{◌≡◌, ◌==◌, ◌∷◌, [], ◌++◌, ℕ, List, length, map, filter, refl, ap, sym, subst, ◌∙◌, arith, eq-eqb}
use Rattle.std.specs.Global.{Vec}
use Rattle.std.specs.List.{AllByRecursion as Each}
use Rattle.kernel_abstract.specs.declared.call.Call.{Call}
use Rattle.kernel_abstract.specs.State.{State}
use Rattle.query_orders.specs.contracts.answer.AnswerPartialEq.TheImpl as answer_eq
use Rattle.query_orders.specs.declared.groups.exploring.GroupExplored.{GroupExplored}
use Rattle.query_orders.specs.Groups.{group_of_client, is_client_in, alone}
use Rattle.query_orders.specs.Nodes.{own_calls}
use Rattle.query_orders.specs.Orders.{numbers_below}
use Rattle.query_orders.specs.Explorations.{IsExplored}
use Rattle.query_orders.proofs.Grouped.Lists.{filtered_more, filtered_same, each_none, each_more, differs}
use Rattle.query_orders.proofs.groups.exploring.explore_each.Goals as goal
use Rattle.query_orders.proofs.groups.exploring.explore_each.Goals.{then-group_of-client+in_ok-lone+in_ok-explored+in_ok-push, else-group_of-client}

pub loop-client-init : goal.loop-client-init
loop-client-init g c =
    let p = g.P.Profile.profile in
    let groups = c.args.groups.now in
    let Gives = λ (A : State) (e : GroupExplored).
    IsExplored p (alone (own_calls c.args.calls.now) c.args.made.now (is_client_in groups e.first)) A c.args.first.now answer_eq.ghosts.eq c.args.limit c.args.count e.explored in (
      ap (map (λ (e : GroupExplored). e.first)) c.new-all.ensures.items,
      λ A r k. each_none (Gives A) c.new-all.result.items c.new-all.ensures.items,
    )

pub loop-client-preserved : goal.loop-client-preserved
loop-client-preserved g c =
    let p = g.P.Profile.profile in
    let groups = c.args.groups.now in
    let client = c.loop-client.client in
    let so_far = c.loop-client.invariant in
    let test = λ (k : ℕ). group_of_client groups k == k in
    let first = λ (e : GroupExplored). e.first in
    let Gives = λ (A : State) (e : GroupExplored).
    IsExplored p (alone (own_calls c.args.calls.now) c.args.made.now (is_client_in groups e.first)) A c.args.first.now answer_eq.ghosts.eq c.args.limit c.args.count e.explored in
    elim c.if-group_of-client.branch [
      | then-group_of-client+in_ok-lone+in_ok-explored+in_ok-push w ↦
          (let new : GroupExplored = record { first = client; explored = w.in_ok-explored.explored } in
          let longer : c.if-group_of-client.all.items ≡ c.loop-client.all.items ++ new ∷ [] =
          ap (λ (v : Vec GroupExplored). v.items) w.all-is ∙ w.in_ok-push.ensures.items in
          let lone = ap own_calls w.as_slice.ensures.value ∙ w.in_ok-lone.ensures in (
            ap (map first) longer
                ∙ filtered_more first test c.loop-client.all.items client new so_far.0 refl (eq-eqb (group_of_client groups client) client (sym c.group_of.ensures ∙ w.if-group_of-client.true)),
            λ A r k. each_more (Gives A) c.loop-client.all.items c.if-group_of-client.all.items new longer (so_far.1 A r k)
                (subst (λ (own : List (List Call)). IsExplored p own A c.args.first.now answer_eq.ghosts.eq c.args.limit c.args.count w.in_ok-explored.explored) lone (w.in_ok-explored.ensures A r k)),
          ))
      | else-group_of-client w ↦
          (let same : c.if-group_of-client.all.items ≡ c.loop-client.all.items = ap (λ (v : Vec GroupExplored). v.items) w.all-is in (
            ap (map first) same ∙ filtered_same test (map first c.loop-client.all.items) client so_far.0
                (differs (group_of_client groups client) client (λ e. w.if-group_of-client.false (c.group_of.ensures ∙ e))),
            λ A r k. subst (λ (l : List GroupExplored). Each (Gives A) l) (sym same) (so_far.1 A r k),
          ))
    ]

pub returns-clause-firsts : goal.returns-clause-firsts
returns-clause-firsts g c =
    let end : c.loop-client.client ≡ length c.args.groups.now = omega arith in
    let so_far = c.loop-client.invariant in
    so_far.0 ∙ ap (λ k. filter (λ client. group_of_client c.args.groups.now client == client) (numbers_below k)) end

pub returns-clause-explored : goal.returns-clause-explored
returns-clause-explored g c =
    let so_far = c.loop-client.invariant in
    so_far.1

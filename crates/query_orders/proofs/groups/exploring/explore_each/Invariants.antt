use Rattle.std.proofs.Common.{◌≡◌, ◌==◌, map, filter}
use Rattle.std.specs.List.{AllByRecursion as Each}
use Rattle.kernel_abstract.specs.State.{State, shown}
use Rattle.kernel_abstract.specs.Reached.{IsReached}
use Rattle.query_orders.specs.contracts.answer.AnswerPartialEq.TheImpl as answer_eq
use Rattle.query_orders.specs.declared.groups.exploring.GroupExplored.{GroupExplored}
use Rattle.query_orders.specs.Groups.{group_of_client, is_client_in, alone}
use Rattle.query_orders.specs.Nodes.{own_calls}
use Rattle.query_orders.specs.Orders.{numbers_below}
use Rattle.query_orders.specs.Explorations.{IsExplored}
use Rattle.query_orders.proofs.groups.exploring.explore_each.Given as goal

abbrev pub invariant-loop-client : goal.invariant-loop-client
invariant-loop-client g l =
    (map (λ (e : GroupExplored). e.first) l.all.items ≡ filter (λ client. group_of_client l.groups client == client) (numbers_below l.client))
    × ((A : State) → IsReached g.P.Profile.profile A → l.kernel ≡ shown A
    → Each (λ (e : GroupExplored). IsExplored g.P.Profile.profile (alone (own_calls l.calls) l.made (is_client_in l.groups e.first)) A l.first answer_eq.ghosts.eq l.limit l.count e.explored) l.all.items)

use Rattle.std.proofs.Common.{◌≡◌, ◌++◌, ◌∷◌, [], map, filter, length, sym, subst, ◌∙◌, arith}
use Rattle.std.proofs.lemmas.List.{length-map}
use Rattle.std.specs.List.{flat_map}
use Rattle.kernel_lists.specs.Firsts.{each_times}
use Rattle.query_orders.specs.World.{next_client_call, may_call, world_after}
use Rattle.query_orders.specs.Orders.{numbers_below}
use Rattle.query_orders.specs.Answers.{call_answers}
use Rattle.query_orders.specs.contracts.answer.AnswerPartialEq.TheImpl as answer_eq
use Rattle.query_orders.specs.Nodes.{own_calls}
use Rattle.query_orders.specs.Found.{IsVisited}
use Rattle.query_orders.proofs.Exploration.Tables.{visited_none, visited_more}
use Rattle.query_orders.proofs.exploring.layers.visit_clients.Goals as goal

pub loop-client-init : goal.loop-client-init
loop-client-init g c = (
  λ w r node at shared all. visited_none g.P.Profile.profile (own_calls c.args.calls.now) w answer_eq.ghosts.eq c.args.nodes.now.layer c.args.found.now all,
  λ w r node at all. all,
)

pub loop-client-preserved : goal.loop-client-preserved
loop-client-preserved g c =
    let before = c.loop-client.invariant in (
      λ w r node at shared all.
          (let so_far = before.0 w r node at shared all in
          visited_more g.P.Profile.profile (own_calls c.args.calls.now) w answer_eq.ghosts.eq c.args.node.now.weight c.args.node.now.order c.loop-client.client
          c.args.nodes.now.layer c.loop-client.nodes.layer c.visit.new.nodes.layer c.args.found.now c.loop-client.found c.visit.new.found
          so_far (c.in_ok-visit.ensures.visited w r node at shared so_far.are)),
      λ w r node at all. c.in_ok-visit.ensures.kernels w r node at (before.1 w r node at all),
    )

pub returns-clause-visited : goal.returns-clause-visited
returns-clause-visited g c w r node at shared all =
    let p = g.P.Profile.profile in
    let own = own_calls c.args.calls.now in
    let order = c.args.node.now.order in
    let end : c.loop-client.client ≡ length c.args.calls.now = omega arith in
    subst (λ k. IsVisited p own w c.args.nodes.now.layer c.loop-client.nodes.layer (each_times c.args.node.now.weight (map (λ c. order ++ c ∷ []) (filter (may_call own (world_after p own w order)) (numbers_below k))))
    answer_eq.ghosts.eq c.args.found.now c.loop-client.found
    (flat_map (λ c. call_answers p (world_after p own w order) order c (next_client_call own (world_after p own w order).made c)) (filter (may_call own (world_after p own w order)) (numbers_below k))))
    (end ∙ sym (length-map c.args.calls.now _)) ((c.loop-client.invariant).0 w r node at shared all)

pub returns-clause-kernels : goal.returns-clause-kernels
returns-clause-kernels g c w r node at all = (c.loop-client.invariant).1 w r node at all

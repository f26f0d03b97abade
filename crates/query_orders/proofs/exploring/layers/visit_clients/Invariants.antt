use Rattle.std.proofs.Common.{◌++◌, ◌∷◌, [], map, filter}
use Rattle.std.specs.List.{flat_map}
use Rattle.kernel_abstract.specs.Reached.{IsReached}
use Rattle.kernel_lists.specs.Firsts.{each_times}
use Rattle.query_orders.specs.World.{World, next_client_call, may_call, world_after}
use Rattle.query_orders.specs.Orders.{numbers_below}
use Rattle.query_orders.specs.Answers.{call_answers}
use Rattle.query_orders.specs.contracts.answer.AnswerPartialEq.TheImpl as answer_eq
use Rattle.query_orders.specs.Nodes.{own_calls, IsNode, AreNodes}
use Rattle.query_orders.specs.Found.{IsVisited}
use Rattle.query_orders.specs.Private.Kernels.{IsKernelOf, AreKernels}
use Rattle.query_orders.specs.Private.Shared.{AreShared}
use Rattle.query_orders.proofs.exploring.layers.visit_clients.Given as goal

abbrev pub invariant-loop-client : goal.invariant-loop-client
invariant-loop-client g l =
    let p = g.P.Profile.profile in
    let own = own_calls l.calls in
    ((w : World) → IsReached p w.kernel → IsNode p own w l.node → IsKernelOf p own w l.node l.at → AreShared p own w l.shared → AreNodes p own w l.fn.nodes.layer
    → IsVisited p own w l.fn.nodes.layer l.nodes.layer (each_times l.node.weight (map (λ c. l.node.order ++ c ∷ []) (filter (may_call own (world_after p own w l.node.order)) (numbers_below l.client))))
    answer_eq.ghosts.eq l.fn.found l.found
    (flat_map (λ c. call_answers p (world_after p own w l.node.order) l.node.order c (next_client_call own (world_after p own w l.node.order).made c)) (filter (may_call own (world_after p own w l.node.order)) (numbers_below l.client))))
    × ((w : World) → IsReached p w.kernel → IsNode p own w l.node → IsKernelOf p own w l.node l.at → AreKernels p own w l.fn.nodes.kernels.items l.fn.nodes.layer
    → AreKernels p own w l.nodes.kernels.items l.nodes.layer)

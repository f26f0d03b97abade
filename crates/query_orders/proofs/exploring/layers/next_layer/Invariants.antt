use Rattle.std.proofs.Common.{◌≡◌, [], length, take, drop, replicate}
use Rattle.kernel_abstract.specs.State.{shown}
use Rattle.kernel_abstract.specs.Reached.{IsReached}
use Rattle.query_orders.specs.World.{World}
use Rattle.query_orders.specs.contracts.answer.AnswerPartialEq.TheImpl as answer_eq
use Rattle.query_orders.specs.Nodes.{own_calls, AreNodes, node_orders}
use Rattle.query_orders.specs.Found.{IsExpanded}
use Rattle.query_orders.specs.Private.Kernels.{AreKernels}
use Rattle.query_orders.specs.Private.Shared.{AreShared}
use Rattle.query_orders.proofs.exploring.layers.next_layer.Given as goal

abbrev pub invariant-loop-node : goal.invariant-loop-node
invariant-loop-node g l =
    let p = g.P.Profile.profile in
    let own = own_calls l.calls in
    (w : World) → IsReached p w.kernel → l.kernel ≡ shown w.kernel → w.made ≡ replicate (length l.calls) 0 → AreNodes p own w l.layer → AreKernels p own w l.fn.kept.items l.layer
    → IsExpanded p own w [] l.next.layer answer_eq.ghosts.eq l.fn.found l.found (node_orders (take l.node-index l.layer))
    × (AreKernels p own w l.next.kernels.items l.next.layer × (AreKernels p own w l.kept.items (drop l.node-index l.layer) × AreShared p own w l.shared))

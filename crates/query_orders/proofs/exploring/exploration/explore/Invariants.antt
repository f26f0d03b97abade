use Rattle.std.proofs.Common.{◌≡◌, ◌-◌}
use Rattle.kernel_abstract.specs.State.{State, shown}
use Rattle.kernel_abstract.specs.Reached.{IsReached}
use Rattle.query_orders.specs.World.{start}
use Rattle.query_orders.specs.contracts.answer.AnswerPartialEq.TheImpl as answer_eq
use Rattle.query_orders.specs.Nodes.{own_calls}
use Rattle.query_orders.specs.Explorations.{layers_from, depth}
use Rattle.query_orders.specs.Private.Kernels.{AreKernels}
use Rattle.query_orders.specs.Private.Progress.{IsProgress}
use Rattle.query_orders.proofs.exploring.exploration.explore.Given as goal

abbrev pub invariant-loop-alloc : goal.invariant-loop-alloc
invariant-loop-alloc g l =
    let p = g.P.Profile.profile in
    let own = own_calls l.calls in
    (A : State) → IsReached p A → l.kernel ≡ shown A
    → IsProgress p own A l.first answer_eq.ghosts.eq l.explored
    × (AreKernels p own (start own A) l.kept.items l.explored.layer
    × (layers_from p own (start own A) l.first l.limit (l.count - l.explored.calls) l.explored.calls ≡ depth p own (start own A) l.first l.limit l.count))

abbrev pub decreases-loop-alloc : goal.decreases-loop-alloc
decreases-loop-alloc g l = l.count - l.explored.calls

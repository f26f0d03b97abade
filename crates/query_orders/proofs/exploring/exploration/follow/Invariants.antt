use Rattle.std.proofs.Common.{ℕ, List, ◌-◌}
use Rattle.kernel_abstract.specs.State.{State}
use Rattle.kernel_abstract.specs.Reached.{IsReached}
use Rattle.query_orders.specs.World.{start}
use Rattle.query_orders.specs.contracts.answer.AnswerPartialEq.TheImpl as answer_eq
use Rattle.query_orders.specs.Nodes.{own_calls}
use Rattle.query_orders.specs.Private.Kernels.{IsKernelOf}
use Rattle.query_orders.specs.Private.Progress.{IsOneOrder}
use Rattle.query_orders.proofs.exploring.exploration.follow.Given as goal

abbrev pub invariant-loop-client : goal.invariant-loop-client
invariant-loop-client g l =
    let p = g.P.Profile.profile in
    let own = own_calls l.calls in
    (A : State) (first : List ℕ) → IsReached p A
    → IsOneOrder p own A first answer_eq.ghosts.eq l.limit l.count l.fn.begun.node l.fn.found l.fn.begun.states l.fn.begun.calls
    → IsKernelOf p own (start own A) l.fn.begun.node l.fn.at
    → IsOneOrder p own A first answer_eq.ghosts.eq l.limit l.count l.one.node l.found l.one.states l.one.calls
    × IsKernelOf p own (start own A) l.one.node l.at

abbrev pub decreases-loop-client : goal.decreases-loop-client
decreases-loop-client g l = l.count - l.one.calls

use Rattle.std.proofs.Common.{◌≡◌, take}
use Rattle.kernel_abstract.specs.State.{State, shown}
use Rattle.kernel_abstract.specs.Reached.{IsReached}
use Rattle.query_orders.specs.World.{start}
use Rattle.query_orders.specs.contracts.answer.AnswerPartialEq.TheImpl as answer_eq
use Rattle.query_orders.specs.Nodes.{own_calls}
use Rattle.query_orders.specs.Explorations.{IsBegun}
use Rattle.query_orders.specs.Private.Kernels.{IsKernelOf}
use Rattle.query_orders.proofs.exploring.exploration.begin.Given as goal

abbrev pub invariant-loop-i : goal.invariant-loop-i
invariant-loop-i g l =
    (A : State) → IsReached g.P.Profile.profile A → l.fn.at ≡ shown A
    → IsBegun g.P.Profile.profile (own_calls l.calls) A (take l.i l.first) l.node answer_eq.ghosts.eq l.fn.found l.found
    × IsKernelOf g.P.Profile.profile (own_calls l.calls) (start (own_calls l.calls) A) l.node l.at

use Rattle.std.proofs.Common.{◌≡◌, length, map}
use Rattle.kernel_lists.specs.Firsts.{with_firsts}
use Rattle.query_orders.specs.declared.answer.Answer.TheVariants.{Waits}
use Rattle.query_orders.specs.declared.answer.WaitingCall.{WaitingCall}
use Rattle.query_orders.specs.Answers.{answered, same_answer}
use Rattle.query_orders.specs.contracts.answer.AnswerPartialEq.TheImpl as answer_eq
use Rattle.query_orders.specs.Found.{answers_of}
use Rattle.query_orders.proofs.exploring.answers.note_waits.Given as goal

abbrev pub invariant-loop-call : goal.invariant-loop-call
invariant-loop-call l =
    with_firsts (same_answer answer_eq.ghosts.eq) (answers_of l.found) (map (λ (call : WaitingCall). answered l.order call.client call.place Waits) l.rest)
    ≡ with_firsts (same_answer answer_eq.ghosts.eq) (answers_of l.fn.found) (map (λ (call : WaitingCall). answered l.order call.client call.place Waits) l.waits)

abbrev pub decreases-loop-call : goal.decreases-loop-call
decreases-loop-call l = length l.rest

use Rattle.std.proofs.Common.{◌≡◌, length}
use Rattle.kernel_lists.specs.Firsts.{with_firsts}
use Rattle.query_orders.specs.Answers.{same_answer, waits_ended}
use Rattle.query_orders.specs.contracts.answer.AnswerPartialEq.TheImpl as answer_eq
use Rattle.query_orders.specs.Found.{answers_of}
use Rattle.query_orders.proofs.exploring.answers.note_ended.Given as goal

abbrev pub invariant-loop-call : goal.invariant-loop-call
invariant-loop-call g l =
    with_firsts (same_answer answer_eq.ghosts.eq) (answers_of l.found) (waits_ended l.order l.kernel l.rest l.reply)
    ≡ with_firsts (same_answer answer_eq.ghosts.eq) (answers_of l.fn.found) (waits_ended l.order l.kernel l.waits l.reply)

abbrev pub decreases-loop-call : goal.decreases-loop-call
decreases-loop-call g l = length l.rest

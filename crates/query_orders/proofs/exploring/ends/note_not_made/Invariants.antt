use Rattle.std.proofs.Common.{◌≡◌, ◌-◌, map}
use Rattle.kernel_lists.specs.Firsts.{with_firsts}
use Rattle.query_orders.specs.declared.answer.Answer.TheVariants.{NotMade}
use Rattle.query_orders.specs.Answers.{answered, same_answer, numbers_from}
use Rattle.query_orders.specs.contracts.answer.AnswerPartialEq.TheImpl as answer_eq
use Rattle.query_orders.specs.Found.{answers_of}
use Rattle.query_orders.proofs.exploring.ends.note_not_made.Given as goal

abbrev pub invariant-loop-place : goal.invariant-loop-place
invariant-loop-place l =
    with_firsts (same_answer answer_eq.ghosts.eq) (answers_of l.found) (map (λ place. answered l.order l.client place NotMade) (numbers_from l.place (l.end - l.place)))
    ≡ with_firsts (same_answer answer_eq.ghosts.eq) (answers_of l.fn.found) (map (λ place. answered l.order l.client place NotMade) (numbers_from l.first (l.end - l.first)))

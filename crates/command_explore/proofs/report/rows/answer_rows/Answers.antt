use Rattle.std.proofs.Common.{List, ◌++◌, filter, slice_get, ap}
use Rattle.query_orders.specs.declared.exploring.found.FoundAnswer.{FoundAnswer}
use Rattle.query_orders.specs.Found.{answers_of}
use Rattle.command_explore.specs.Numbers.{numbers_in}
use Rattle.command_explore.specs.Text.{is_answer_of}
use Rattle.command_explore.proofs.CallAnswers.{if_some}
use Rattle.command_explore.proofs.report.rows.answer_rows.Goals as goal

pub loop-answer-init : goal.loop-answer-init
loop-answer-init c n =
    let left = filter (is_answer_of (numbers_in c.args.numbers.now) n) (answers_of c.args.answers.now) in
    if_some (slice_get c.in_ok-rows.rows.items n) (c.in_ok-rows.ensures n) (λ row e. ap (λ (l : List FoundAnswer). answers_of l ++ left) e)

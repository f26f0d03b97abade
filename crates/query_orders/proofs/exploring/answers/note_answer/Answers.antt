use Rattle.std.proofs.Common.{List, ℕ, refl, ap}
use Rattle.query_orders.specs.Answers.{answered}
use Rattle.query_orders.specs.contracts.answer.AnswerPartialEq.TheImpl as answer_eq
use Rattle.query_orders.specs.declared.exploring.found.FoundAnswer.{FoundAnswer}
use Rattle.query_orders.proofs.Exploration.Tables.{answer_pushed, answer_kept}
use Rattle.query_orders.proofs.exploring.answers.note_answer.Goals as goal

pub returns-in_ok-push : goal.returns-in_ok-push
returns-in_ok-push c =
    let new : FoundAnswer = record { order = c.in_ok-order.order; client = c.args.client; place = c.args.place; answer = c.args.answer } in
    answer_pushed answer_eq.ghosts.eq c.knows.result c.args.found.now c.args.found.now c.push.new.self new c.args.order.now c.args.client c.args.place c.args.answer
    refl c.knows.ensures c.if-not-knows.true
    (ap (λ (order : List ℕ). answered order c.args.client c.args.place c.args.answer) c.in_ok-order.ensures) c.in_ok-push.ensures

pub returns-else-not-knows : goal.returns-else-not-knows
returns-else-not-knows c =
    answer_kept answer_eq.ghosts.eq c.knows.result c.args.found.now c.args.found.now c.args.order.now c.args.client c.args.place c.args.answer
    refl c.knows.ensures c.if-not-knows.false

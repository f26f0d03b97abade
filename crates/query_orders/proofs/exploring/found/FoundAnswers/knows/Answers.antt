use Rattle.std.proofs.Common.{◌&&◌, ◌==◌, List, ap, ◌∙◌}
use Rattle.std.specs.List.{list_any}
use Rattle.query_orders.specs.contracts.answer.AnswerPartialEq.TheImpl as answer_eq
use Rattle.query_orders.specs.declared.exploring.found.FoundAnswer.{FoundAnswer}
use Rattle.query_orders.specs.declared.exploring.found.CallAnswer.{CallAnswer}
use Rattle.query_orders.proofs.Exploration.Known.{any_same}
use Rattle.query_orders.proofs.exploring.found.FoundAnswers.knows.Goals as goal

pub returns : goal.returns
returns c =
    let q : CallAnswer = record { client = c.args.client; place = c.args.place; answer = c.args.answer } in
    c.contains.ensures ∙ c.self.invariant q ∙ any_same c.self.inside.found.items q
    ∙ ap (λ (l : List FoundAnswer). list_any (λ (a : FoundAnswer). (a.client == q.client) && (a.place == q.place) && answer_eq.ghosts.eq a.answer q.answer) l) c.self.view_is

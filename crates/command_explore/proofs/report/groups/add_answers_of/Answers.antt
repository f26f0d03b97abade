use Rattle.std.proofs.Common.{◌≡◌, ◌++◌, List, filter, map, take, ap, ◌∙◌}
use Rattle.std.proofs.lemmas.List.{map-append, take_all}
use Rattle.query_orders.specs.declared.exploring.found.FoundAnswer.{FoundAnswer}
use Rattle.query_orders.specs.Answers.{Answered}
use Rattle.query_orders.specs.Groups.{is_client_in}
use Rattle.query_orders.specs.Found.{answer_of, answers_of}
use Rattle.command_explore.proofs.GroupViews.{answers_among}
use Rattle.command_explore.proofs.report.groups.add_answers_of.Goals as goal

pub returns : goal.returns
returns c =
    let has = is_client_in c.args.groups.now c.args.group.now.first in
    let old = c.args.out.now.items in
    let among = λ (l : List FoundAnswer). filter (λ (f : FoundAnswer). has f.client) l in
    let found = c.args.group.now.explored.found.answers in
    let whole : take c.loop-answer.answer-index c.answers-answers.result.now ≡ found = take_all c.loop-answer.answer-index c.answers-answers.result.now c.loop-answer-test.false ∙ c.answers-answers.ensures in
    ap answers_of c.loop-answer.invariant
    ∙ map-append answer_of old (among (take c.loop-answer.answer-index c.answers-answers.result.now))
    ∙ ap (λ (l : List FoundAnswer). answers_of old ++ map answer_of (among l)) whole
    ∙ ap (λ (l : List Answered). answers_of old ++ l) (answers_among has found)

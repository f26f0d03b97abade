use Rattle.std.proofs.Common.{◌≡◌}
use Rattle.std.specs.List.{flat_map}
use Rattle.kernel_lists.specs.Firsts.{with_firsts}
use Rattle.query_orders.specs.Orders.{numbers_below}
use Rattle.query_orders.specs.Answers.{same_answer}
use Rattle.query_orders.specs.contracts.answer.AnswerPartialEq.TheImpl as answer_eq
use Rattle.query_orders.specs.Nodes.{own_calls}
use Rattle.query_orders.specs.Found.{answers_of, not_made_told}
use Rattle.query_orders.proofs.exploring.ends.note_left.Given as goal

abbrev pub invariant-loop-client : goal.invariant-loop-client
invariant-loop-client l =
    answers_of l.found ≡ with_firsts (same_answer answer_eq.ghosts.eq) (answers_of l.fn.found) (flat_map (not_made_told (own_calls l.calls) l.node.made.items l.node.order) (numbers_below l.client))

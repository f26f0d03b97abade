use Rattle.std.proofs.Common.{◌≡◌, ◌-◌, ℕ, List, length, map, ap, ◌∙◌, arith}
use Rattle.std.specs.List.{flat_map}
use Rattle.kernel_lists.specs.Firsts.{with_firsts}
use Rattle.query_orders.specs.declared.answer.Answer.TheVariants.{NotMade}
use Rattle.query_orders.specs.World.{next_place}
use Rattle.query_orders.specs.Orders.{numbers_below}
use Rattle.query_orders.specs.Answers.{answered, same_answer, numbers_from}
use Rattle.query_orders.specs.contracts.answer.AnswerPartialEq.TheImpl as answer_eq
use Rattle.query_orders.specs.Nodes.{own_calls}
use Rattle.query_orders.specs.Found.{answers_of, not_made_told}
use Rattle.query_orders.proofs.Exploration.Loops.{all_more}
use Rattle.query_orders.proofs.exploring.ends.note_left.Goals as goal

pub loop-client-preserved : goal.loop-client-preserved
loop-client-preserved c =
    let own = own_calls c.args.calls.now in
    let n = c.args.node.now in
    let k = c.loop-client.client in
    let told = λ (order : List ℕ) (first end : ℕ). with_firsts (same_answer answer_eq.ghosts.eq) (answers_of c.loop-client.found) (map (λ place. answered order k place NotMade) (numbers_from first (end - first))) in
    all_more (same_answer answer_eq.ghosts.eq) (not_made_told own n.made.items n.order) (answers_of c.args.found.now) (answers_of c.loop-client.found) (answers_of c.note_not_made.new.found) k
    c.loop-client.invariant
    (c.in_ok-note_not_made.ensures
    ∙ ap (λ first. told n.order first c.count_of-end.result) (c.place_of-first.ensures ∙ ap (λ l. next_place l k) c.as_slice.ensures.value)
    ∙ ap (told n.order (next_place n.made.items k)) c.count_of-end.ensures)

pub returns : goal.returns
returns c =
    let end : c.loop-client.client ≡ length c.args.calls.now = omega arith in
    c.loop-client.invariant ∙ ap (λ k. with_firsts (same_answer answer_eq.ghosts.eq) (answers_of c.args.found.now) (flat_map (not_made_told (own_calls c.args.calls.now) c.args.node.now.made.items c.args.node.now.order) (numbers_below k))) end

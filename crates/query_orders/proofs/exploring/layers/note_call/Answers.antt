use Rattle.std.proofs.Common.{List, ℕ, ◌++◌, ap, ◌∙◌}
use Rattle.kernel_lists.specs.Firsts.{with_firsts}
use Rattle.query_orders.specs.declared.answer.WaitingCall.{WaitingCall}
use Rattle.query_orders.specs.World.{next_place}
use Rattle.query_orders.specs.Answers.{same_answer, replied, waits_ended}
use Rattle.query_orders.specs.contracts.answer.AnswerPartialEq.TheImpl as answer_eq
use Rattle.query_orders.specs.Found.{answers_of}
use Rattle.query_orders.proofs.Exploration.Tables.{made_is}
use Rattle.query_orders.proofs.exploring.layers.note_call.Goals as goal

pub returns-clause-made : goal.returns-clause-made
returns-clause-made g c own w r node steps next_is =
    let p = g.P.Profile.profile in
    let n = c.args.node.now in
    let client = c.args.client in
    let after = c.args.after.now in
    let reply = c.args.reply in
    let order = c.in_ok-order.order in
    let place = c.place_of-place.result in
    let told =
    c.in_ok-note_outcome.ensures
    ∙ ap (λ (l : List WaitingCall). with_firsts (same_answer answer_eq.ghosts.eq) (answers_of c.args.found.now) (replied order client place reply ++ waits_ended order after l reply)) c.as_slice-waits.ensures.value in
    made_is p own w answer_eq.ghosts.eq n client c.args.call c.args.found.now c.note_outcome.new.found reply after order place c.in_ok-new.new
    node steps next_is
    c.in_ok-order.ensures
    (c.place_of-place.ensures ∙ ap (λ (l : List ℕ). next_place l client) c.as_slice.ensures.value)
    told c.in_ok-new.ensures.order c.in_ok-new.ensures.made c.in_ok-new.ensures.waits

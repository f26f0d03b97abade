use Rattle.std.proofs.Common.{◌≡◌, List, ℕ, Some, ap, sym, ◌∙◌}
use Rattle.query_orders.specs.World.{next_client_call, world_after}
use Rattle.query_orders.specs.contracts.answer.AnswerPartialEq.TheImpl as answer_eq
use Rattle.query_orders.specs.Nodes.{own_calls}
use Rattle.query_orders.proofs.Exploration.Steps.{world_reached}
use Rattle.query_orders.proofs.Exploration.Tables.{if_ok}
use Rattle.query_orders.proofs.Exploration.Explorations.{none_made}
use Rattle.query_orders.proofs.exploring.exploration.first_call.Goals as goal

pub returns-in-Some-clause-made : goal.returns-in-Some-clause-made
returns-in-Some-clause-made g c =
    let p = g.P.Profile.profile in
    let own = own_calls c.args.calls.now in
    if_ok c.note_call.result c.note_call.ensures.made
    (λ new h w r node at.
    (let next_is : next_client_call own c.args.node.made.items c.args.client ≡ Some c.in-Some.call = sym (c.next_call.ensures.call ∙ ap (λ (l : List ℕ). next_client_call own l c.args.client) c.as_slice.ensures.value) ∙ c.in-Some.is in
    h own w r node (c.step-reply.ensures.stands (world_after p own w c.args.node.order).kernel (world_reached p own w c.args.node.order r) at) next_is))

pub returns-in-None-clause-made : goal.returns-in-None-clause-made
returns-in-None-clause-made g c =
    let p = g.P.Profile.profile in
    let own = own_calls c.args.calls.now in
    if_ok c.uncalled.result c.uncalled.ensures.rest
    (λ new h w r node at.
    (let a = h.1 in
    none_made p own w answer_eq.ghosts.eq c.args.node new c.args.client c.next_call.result c.args.found.now c.args.at.now node (c.next_call.ensures.call ∙ ap (λ (l : List ℕ). next_client_call own l c.args.client) c.as_slice.ensures.value) c.in-None.is h.0 a.0 a.1 at))

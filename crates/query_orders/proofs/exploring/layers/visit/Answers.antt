use Rattle.std.proofs.Common.{List, ℕ, ap, sym, ◌∙◌}
use Rattle.kernel_abstract.specs.State.{shown}
use Rattle.query_orders.specs.World.{world_after}
use Rattle.query_orders.specs.contracts.answer.AnswerPartialEq.TheImpl as answer_eq
use Rattle.query_orders.specs.Nodes.{own_calls}
use Rattle.query_orders.proofs.Exploration.Steps.{world_reached}
use Rattle.query_orders.proofs.Exploration.Tables.{node_way, visited_call}
use Rattle.query_orders.proofs.exploring.layers.visit.Goals as goal

pub returns-in_ok-note_node-clause-visited : goal.returns-in_ok-note_node-clause-visited
returns-in_ok-note_node-clause-visited g c w r node at shared all =
    let p = g.P.Profile.profile in
    let own = own_calls c.args.calls.now in
    let order = c.args.node.now.order in
    let steps = c.in_ok-kernel.ensures (world_after p own w order).kernel (world_reached p own w order r) at in
    let made = c.in_ok-way.ensures.made own w r (node_way p own w c.args.node.now node) steps c.in-Some.ensures.call in
    visited_call p own w answer_eq.ghosts.eq c.args.node.now c.args.at.now c.args.client c.callable.result c.in-Some.call c.args.nodes.now.layer c.note_node.new.nodes.layer c.args.found.now c.note_call.new.found c.in_ok-way.way c.in_ok-new.new
    node at all c.in-Some.is c.callable.ensures.may made.0 (c.in_ok-new.ensures.node own w r shared (made.0).is made.1) c.in_ok-new.ensures.order (c.in_ok-new.ensures.weight ∙ c.in_ok-way.ensures.weight) c.in_ok-note_node.ensures.layer

pub returns-in_ok-note_node-clause-kernels : goal.returns-in_ok-note_node-clause-kernels
returns-in_ok-note_node-clause-kernels g c w r node at all =
    let p = g.P.Profile.profile in
    let own = own_calls c.args.calls.now in
    let order = c.args.node.now.order in
    let steps = c.in_ok-kernel.ensures (world_after p own w order).kernel (world_reached p own w order r) at in
    let made = c.in_ok-way.ensures.made own w r (node_way p own w c.args.node.now node) steps c.in-Some.ensures.call in
    c.in_ok-note_node.ensures.kernels p own w (made.1 ∙ ap (λ (o : List ℕ). shown (world_after p own w o).kernel) (sym c.in_ok-new.ensures.order)) all

use Rattle.std.proofs.Common.{sym, length}
use Rattle.std.proofs.lemmas.List.{length-map}
use Rattle.query_orders.specs.contracts.answer.AnswerPartialEq.TheImpl as answer_eq
use Rattle.query_orders.specs.Nodes.{own_calls}
use Rattle.query_orders.proofs.Exploration.Tables.{expanded_is}
use Rattle.query_orders.proofs.exploring.layers.expand.Goals as goal

pub returns-clause-expanded : goal.returns-clause-expanded
returns-clause-expanded g c w r node at shared all =
    let p = g.P.Profile.profile in
    let own = own_calls c.args.calls.now in
    expanded_is p own w answer_eq.ghosts.eq c.args.node.now c.args.at.now (length c.args.calls.now) c.is_end-ends.result node at (sym (length-map c.args.calls.now _)) c.is_end-ends.ensures
    c.args.nodes.now.layer c.visit_clients.new.nodes.layer c.args.found.now c.note_stuck_end.new.found c.visit_clients.new.found c.note_end.new.found
    (c.in_ok-visit_clients.ensures.visited w r node at shared all) c.in_ok-note_end.ensures
    c.in_ok-note_stuck_end.ensures.answers c.in_ok-note_stuck_end.ensures.stuck c.in_ok-note_stuck_end.ensures.ends c.in_ok-note_stuck_end.ensures.orders c.in_ok-note_stuck_end.ensures.stuck_orders

pub returns-clause-kernels : goal.returns-clause-kernels
returns-clause-kernels g c w r node at all = c.in_ok-visit_clients.ensures.kernels w r node at all

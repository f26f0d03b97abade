use Rattle.std.proofs.Common.{length, refl}
use Rattle.query_orders.specs.contracts.answer.AnswerPartialEq.TheImpl as answer_eq
use Rattle.query_orders.specs.Nodes.{own_calls}
use Rattle.query_orders.proofs.Exploration.Tables.{ended_told}
use Rattle.query_orders.proofs.exploring.ends.note_end.Goals as goal

pub returns-in_ok-note_left : goal.returns-in_ok-note_left
returns-in_ok-note_left c =
    let n = c.args.node.now in
    ended_told answer_eq.ghosts.eq (own_calls c.args.calls.now) (length c.args.calls.now) n.made.items n.order n.order n.waits.items c.as_slice.result.now c.args.ends
    c.args.found.now c.note_waits.new.found c.note_left.new.found c.if-ends.true c.as_slice.ensures.value refl
    c.in_ok-note_waits.ensures c.in_ok-note_left.ensures

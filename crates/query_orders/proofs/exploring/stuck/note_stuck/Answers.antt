use Rattle.std.proofs.Common.{List, ℕ, ap}
use Rattle.query_orders.specs.Ends.{stuck_end}
use Rattle.query_orders.specs.declared.exploring.stuck.FoundStuck.{FoundStuck}
use Rattle.query_orders.proofs.Exploration.Tables.{stuck_pushed, stuck_kept}
use Rattle.query_orders.proofs.exploring.stuck.note_stuck.Goals as goal

pub returns-in_ok-push : goal.returns-in_ok-push
returns-in_ok-push c =
    let new : FoundStuck = record { order = c.in_ok-order.order; left = c.args.left } in
    stuck_pushed c.is_known_stuck.result c.as_slice.result.now c.args.stuck.now.items c.push.new.self.items new c.args.order.now c.args.left.items c.as_slice-2.result.now
    c.as_slice.ensures.value c.as_slice-2.ensures.value c.is_known_stuck.ensures c.if-not-is_known_stuck.true (ap (λ (o : List ℕ). stuck_end o c.args.left.items) c.in_ok-order.ensures) c.in_ok-push.ensures.items

pub returns-else-not-is_known_stuck : goal.returns-else-not-is_known_stuck
returns-else-not-is_known_stuck c =
    stuck_kept c.is_known_stuck.result c.as_slice.result.now c.args.stuck.now.items c.args.order.now c.args.left.items c.as_slice-2.result.now
    c.as_slice.ensures.value c.as_slice-2.ensures.value c.is_known_stuck.ensures c.if-not-is_known_stuck.false

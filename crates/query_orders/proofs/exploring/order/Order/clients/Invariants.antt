use Rattle.std.proofs.Common.{◌≡◌, ◌++◌, length, reverse}
use Rattle.query_orders.proofs.exploring.order.Order.clients.Given as goal

abbrev pub invariant-loop-link : goal.invariant-loop-link
invariant-loop-link l = l.rest ++ reverse l.clients.items ≡ l.self

abbrev pub decreases-loop-link : goal.decreases-loop-link
decreases-loop-link l = length l.rest

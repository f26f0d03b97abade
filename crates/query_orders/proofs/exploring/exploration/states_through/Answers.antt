use Rattle.std.proofs.Common.{arith}
use Rattle.query_orders.proofs.exploring.exploration.states_through.Goals as goal

pub returns : goal.returns
returns c = omega (arith, c.saturating_add.ensures)

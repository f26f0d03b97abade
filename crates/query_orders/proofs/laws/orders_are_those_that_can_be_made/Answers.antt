use Rattle.query_orders.proofs.Possible.{orders_are_possible}
use Rattle.query_orders.proofs.laws.orders_are_those_that_can_be_made.Goals as goal

pub returns : goal.returns
returns c = λ p own w count order. orders_are_possible p own w count order

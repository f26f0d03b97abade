use Rattle.query_orders.proofs.NoLonger.{no_order_is_longer}
use Rattle.query_orders.proofs.laws.orders_have_no_more_calls_than_the_clients.Goals as goal

pub returns : goal.returns
returns c = no_order_is_longer

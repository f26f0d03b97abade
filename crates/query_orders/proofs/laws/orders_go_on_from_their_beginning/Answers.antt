use Rattle.query_orders.proofs.Behind.{orders_go_on}
use Rattle.query_orders.proofs.laws.orders_go_on_from_their_beginning.Goals as goal

pub returns : goal.returns
returns c = orders_go_on

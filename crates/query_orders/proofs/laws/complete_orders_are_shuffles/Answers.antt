use Rattle.query_orders.proofs.Shuffles.{complete_shuffles}
use Rattle.query_orders.proofs.laws.complete_orders_are_shuffles.Goals as goal

pub returns : goal.returns
returns c = complete_shuffles

use Rattle.query_orders.proofs.Exploration.Explorations.{no_orders_behind}
use Rattle.query_orders.proofs.exploring.exploration.empty_layers_are_the_last.Goals as goal

pub returns : goal.returns
returns c = no_orders_behind

use Rattle.kernel_delete.proofs.Rounds.{cleared_least, least_cleared}
use Rattle.kernel_delete.proofs.Selfheld.{stays_in_itself}
use Rattle.kernel_delete.proofs.Orders.{order_clear}
use Rattle.kernel_delete.proofs.laws.clear_takes_the_least_set.Goals as goal

pub returns : goal.returns
returns c = record { least = cleared_least; only = least_cleared; order = order_clear; selfheld = stays_in_itself }

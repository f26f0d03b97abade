use Rattle.query_orders.proofs.AllOrders.First.{first_tell_the_same}
use Rattle.query_orders.proofs.AllOrders.Told.{tell_the_same, leave_the_same}
use Rattle.query_orders.proofs.laws.groups_tell_what_all_orders_tell.Goals as goal

pub returns-clause-first : goal.returns-clause-first
returns-clause-first c = first_tell_the_same

pub returns-clause-told : goal.returns-clause-told
returns-clause-told c = tell_the_same

pub returns-clause-left : goal.returns-clause-left
returns-clause-left c = leave_the_same

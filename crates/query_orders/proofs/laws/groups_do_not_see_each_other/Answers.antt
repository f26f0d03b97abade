use Rattle.query_orders.proofs.Apart.Alone.{begins_alike}
use Rattle.query_orders.proofs.Apart.Groups.{has_part, goes_on_alone}
use Rattle.query_orders.proofs.laws.groups_do_not_see_each_other.Goals as goal

pub returns-clause-begins : goal.returns-clause-begins
returns-clause-begins c = begins_alike

pub returns-clause-part : goal.returns-clause-part
returns-clause-part c = has_part

pub returns-clause-goes_on : goal.returns-clause-goes_on
returns-clause-goes_on c = goes_on_alone

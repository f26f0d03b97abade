use Rattle.query_reach.proofs.Refused.{sends_refused, receives_refused}
use Rattle.query_reach.proofs.laws.unreached_is_refused.Goals as goal

pub returns-clause-sends : goal.returns-clause-sends
returns-clause-sends c = sends_refused

pub returns-clause-receives : goal.returns-clause-receives
returns-clause-receives c = receives_refused

use Rattle.query_reach.proofs.Refused.{sends_elsewhere, receives_elsewhere}
use Rattle.query_reach.proofs.laws.unreached_endpoint_is_not_served.Goals as goal

pub returns-clause-sends : goal.returns-clause-sends
returns-clause-sends c = sends_elsewhere

pub returns-clause-receives : goal.returns-clause-receives
returns-clause-receives c = receives_elsewhere

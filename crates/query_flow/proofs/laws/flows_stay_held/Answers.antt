-- The proof of `flows_stay_held`: the goals that a search leaves open.
use Rattle.query_flow.proofs.Runs.{stay_held}
use Rattle.query_flow.proofs.Told.{tell_flow}
use Rattle.query_flow.proofs.laws.flows_stay_held.Goals as goal

pub returns-clause-held : goal.returns-clause-held
returns-clause-held c = stay_held

pub returns-clause-deliveries : goal.returns-clause-deliveries
returns-clause-deliveries c = tell_flow

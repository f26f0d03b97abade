-- The proof of `deliveries_stay_within_uses`: the goals that a search leaves open.
use Rattle.query_parts.proofs.Delivered.{deliver_within, tell_within}
use Rattle.query_parts.proofs.laws.deliveries_stay_within_uses.Goals as goal

pub returns-clause-records : goal.returns-clause-records
returns-clause-records c = deliver_within

pub returns-clause-replies : goal.returns-clause-replies
returns-clause-replies c = tell_within

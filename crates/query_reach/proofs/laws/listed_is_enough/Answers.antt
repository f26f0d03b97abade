use Rattle.query_reach.proofs.Refused.{listed_tells}
use Rattle.query_reach.proofs.laws.listed_is_enough.Goals as goal

pub returns : goal.returns
returns c = listed_tells

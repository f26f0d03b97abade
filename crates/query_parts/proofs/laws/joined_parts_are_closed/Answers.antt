-- The proof of `joined_parts_are_closed`: the goals that a search leaves open.
use Rattle.query_parts.proofs.Together.{joined_closed}
use Rattle.query_parts.proofs.laws.joined_parts_are_closed.Goals as goal

pub returns : goal.returns
returns c = joined_closed

-- The proof of `live_threads_are_addressed`: the goals that a search leaves open.
use Rattle.query_parts.proofs.Addressed.{live_addressed}
use Rattle.query_parts.proofs.laws.live_threads_are_addressed.Goals as goal

pub returns : goal.returns
returns c = live_addressed

-- The proof of `calls_keep_within_their_part`: the goals that a search leaves open.
use Rattle.query_parts.proofs.Runs.{stays_closed, leaves_others, takes_only_near}
use Rattle.query_parts.proofs.laws.calls_keep_within_their_part.Goals as goal

pub returns-clause-closed : goal.returns-clause-closed
returns-clause-closed c = stays_closed

pub returns-clause-others : goal.returns-clause-others
returns-clause-others c = leaves_others

pub returns-clause-taken : goal.returns-clause-taken
returns-clause-taken c = takes_only_near

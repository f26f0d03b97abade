-- The proof of `revokes_take_what_stands_below`: the goals that a search leaves open.
use Rattle.query_parts.proofs.Taking.{takes_nothing, takes_nothing_outside, stay_none, stay_own}
use Rattle.query_parts.proofs.laws.revokes_take_what_stands_below.Goals as goal

pub returns-clause-taken : goal.returns-clause-taken
returns-clause-taken c = takes_nothing

pub returns-clause-outside : goal.returns-clause-outside
returns-clause-outside c = takes_nothing_outside

pub returns-clause-stays : goal.returns-clause-stays
returns-clause-stays c = stay_none

pub returns-clause-stays_outside : goal.returns-clause-stays_outside
returns-clause-stays_outside c = stay_own

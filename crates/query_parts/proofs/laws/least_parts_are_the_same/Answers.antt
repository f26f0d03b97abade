-- The proof of `least_parts_are_the_same`: the goals that a search leaves open.
use Rattle.query_parts.proofs.Same.{lie_in_each_other}
use Rattle.query_parts.proofs.laws.least_parts_are_the_same.Goals as goal

pub returns : goal.returns
returns c = lie_in_each_other

-- The proof of `regions_stay_within`: the goals that a search leaves open.
use Rattle.query_parts.proofs.Regions.{regions_stay}
use Rattle.query_parts.proofs.laws.regions_stay_within.Goals as goal

pub returns : goal.returns
returns c = regions_stay

use Rattle.kernel_checks.proofs.Endings.{way_ends}
use Rattle.kernel_checks.proofs.laws.ways_end_where_lookups_do.Goals as goal

pub returns : goal.returns
returns c = way_ends

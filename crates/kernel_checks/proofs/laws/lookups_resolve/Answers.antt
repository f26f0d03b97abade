-- The proof of `lookups_resolve`.
use Rattle.kernel_abstract.proofs.Checks.Walked.{walked_is, slot_by_index_is}
use Rattle.kernel_checks.proofs.laws.lookups_resolve.Goals as goal

pub returns-clause-walk : goal.returns-clause-walk
returns-clause-walk c = walked_is

pub returns-clause-index : goal.returns-clause-index
returns-clause-index c = slot_by_index_is

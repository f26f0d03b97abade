use Rattle.std.proofs.Common.{[], ap}
use Rattle.kernel_shared.specs.Laws.{are_entries_numbered}
use Rattle.command_threads.proofs.numbered.Numbered.with_capacity.Goals as goal

pub invariant_of-result-clause-numbered : goal.invariant_of-result-clause-numbered
unfolding are_entries_numbered
invariant_of-result-clause-numbered c = ap (are_entries_numbered []) c.in_ok-entries.ensures.items

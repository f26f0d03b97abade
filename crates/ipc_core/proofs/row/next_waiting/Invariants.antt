use Rattle.std.proofs.Common.{◌≡◌, length}
use Rattle.ipc_core.specs.Representation.Rows.{next_by}
use Rattle.ipc_core.proofs.row.next_waiting.Given as goal

abbrev pub invariant-loop-row : goal.invariant-loop-row
invariant-loop-row l = next_by l.thread l.rest ≡ next_by l.thread l.rows

abbrev pub decreases-loop-row : goal.decreases-loop-row
decreases-loop-row l = length l.rest

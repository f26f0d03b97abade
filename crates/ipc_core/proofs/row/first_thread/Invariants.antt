use Rattle.std.proofs.Common.{◌≡◌, drop, option_map}
use Rattle.std.specs.Prelude.{find}
use Rattle.ipc_core.specs.Representation.Rows.{is_at, row_thread}
use Rattle.ipc_core.proofs.row.first_thread.Given as goal

abbrev pub invariant-loop-row : goal.invariant-loop-row
invariant-loop-row l = option_map row_thread (find (is_at l.endpoint) (drop l.row-index l.rows)) ≡ option_map row_thread (find (is_at l.endpoint) l.rows)

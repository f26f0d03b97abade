use Rattle.std.proofs.Common.{◌≡◌, drop, slice_get}
use Rattle.ipc_core.specs.Representation.Rows.{waiting_at}
use Rattle.ipc_core.proofs.row.waiter_at.Given as goal

abbrev pub invariant-loop-row : goal.invariant-loop-row
invariant-loop-row l = slice_get (waiting_at (drop l.row-index l.rows) l.endpoint) l.before ≡ slice_get (waiting_at l.rows l.endpoint) l.place

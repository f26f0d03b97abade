use Rattle.std.proofs.Common.{◌≡◌, drop}
use Rattle.std.specs.Prelude.{find}
use Rattle.ipc_core.specs.Representation.Rows.{is_of}
use Rattle.ipc_core.proofs.row.row_of.Given as goal

abbrev pub invariant-loop-row : goal.invariant-loop-row
invariant-loop-row l = find (is_of l.thread) (drop l.row-index l.rows) ≡ find (is_of l.thread) l.rows

use Rattle.std.proofs.Common.{◌≡◌, drop}
use Rattle.std.specs.List.{position, position_from}
use Rattle.ipc_core.specs.Representation.Rows.{is_at}
use Rattle.ipc_core.proofs.row.first_place.Given as goal

abbrev pub invariant-loop-place : goal.invariant-loop-place
invariant-loop-place l = position_from (is_at l.endpoint) l.place (drop l.place l.rows) ≡ position (is_at l.endpoint) l.rows

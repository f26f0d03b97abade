use Rattle.std.proofs.Common.{◌≡◌, ◌++◌, take, drop}
use Rattle.slot_core.specs.Rows.{raised}
use Rattle.slot_core.proofs.rows.raise.Given as goal

abbrev pub invariant-loop-row : goal.invariant-loop-row
invariant-loop-row l = take l.row-index l.rows ++ raised l.depth (drop l.row-index l.rows) ≡ raised l.depth l.fn.rows

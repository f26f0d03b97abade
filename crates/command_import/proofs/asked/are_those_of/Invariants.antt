-- The pairs are those of the rows so far, and the rest.
use Rattle.std.proofs.Common.{◌≡◌, ◌++◌, take}
use Rattle.command_import.specs.Asked.{kept_pairs}
use Rattle.command_import.proofs.asked.are_those_of.Given as goal

abbrev pub invariant-loop-row : goal.invariant-loop-row
invariant-loop-row l = l.derived ≡ kept_pairs (take l.row-index l.rows) ++ l.rest

use Rattle.std.proofs.Common.{◌≡◌, true, take}
use Rattle.std.specs.List.{list_all}
use Rattle.command_import.specs.Asked.{is_kept}
use Rattle.command_import.proofs.asked.are_all_kept.Given as goal

abbrev pub invariant-loop-row : goal.invariant-loop-row
invariant-loop-row l = list_all is_kept (take l.row-index l.rows) ≡ true

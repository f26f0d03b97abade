use Rattle.std.proofs.Common.{◌≡◌, false, take}
use Rattle.std.specs.List.{list_any}
use Rattle.command_import.specs.Laid.{are_same_object}
use Rattle.command_import.proofs.laid_out.is_among.Given as goal

abbrev pub invariant-loop-other : goal.invariant-loop-other
invariant-loop-other l = list_any (are_same_object l.object) (take l.other-index l.others) ≡ false

use Rattle.std.proofs.Common.{◌≡◌, true, take}
use Rattle.std.specs.List.{list_all}
use Rattle.command_how_witness.specs.Witness.{asking_of, is_caller}
use Rattle.command_how_witness.proofs.shown.are_callers.Given as goal

abbrev pub invariant-loop-call : goal.invariant-loop-call
invariant-loop-call l = list_all (is_caller (asking_of l.asked)) (take l.call-index l.calls) ≡ true

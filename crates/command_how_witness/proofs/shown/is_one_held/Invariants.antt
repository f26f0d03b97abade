use Rattle.std.proofs.Common.{◌≡◌, false, take}
use Rattle.std.specs.List.{list_any}
use Rattle.command_how_witness.specs.Private.{is_held}
use Rattle.command_how_witness.proofs.shown.is_one_held.Given as goal

abbrev pub invariant-loop-one : goal.invariant-loop-one
invariant-loop-one g l = list_any (is_held l.kernel.derivations l.word l.thread) (take l.one-index l.list) ≡ false

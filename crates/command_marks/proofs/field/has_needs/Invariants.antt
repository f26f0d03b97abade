use Rattle.std.proofs.Common.{◌≡◌, false, take}
use Rattle.command_marks.specs.Table.{has_needs}
use Rattle.command_marks.proofs.field.has_needs.Given as goal

abbrev pub invariant-loop-byte : goal.invariant-loop-byte
invariant-loop-byte l = has_needs (take l.byte-index l.bytes) ≡ false

use Rattle.std.proofs.Common.{◌≡◌, take}
use Rattle.command_marks.specs.Against.{spaces}
use Rattle.command_marks.proofs.against.spaces.Given as goal

abbrev pub invariant-loop-byte : goal.invariant-loop-byte
invariant-loop-byte l = l.count ≡ spaces (take l.byte-index l.bytes)

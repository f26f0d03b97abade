use Rattle.std.proofs.Common.{◌≡◌, drop}
use Rattle.std.specs.List.{find}
use Rattle.setup_system.specs.Languages.{is_inside}
use Rattle.setup_system.proofs.languages.first_of.Given as goal

abbrev pub invariant-loop-byte : goal.invariant-loop-byte
invariant-loop-byte l = find is_inside (drop l.byte-index l.bytes) ≡ find is_inside l.bytes

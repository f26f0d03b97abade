use Rattle.std.proofs.Common.{◌≡◌, drop}
use Rattle.std.specs.List.{find}
use Rattle.setup_system.specs.Languages.{is_mark}
use Rattle.setup_system.proofs.languages.mark_of.Given as goal

abbrev pub invariant-loop-byte : goal.invariant-loop-byte
invariant-loop-byte l = find is_mark (drop l.byte-index l.bytes) ≡ find is_mark l.bytes

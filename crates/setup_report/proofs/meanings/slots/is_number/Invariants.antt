use Rattle.std.proofs.Common.{◌≡◌, true, take}
use Rattle.std.specs.List.{list_all}
use Rattle.setup_values.specs.Kinds.{between}
use Rattle.setup_report.proofs.meanings.slots.is_number.Given as goal

abbrev pub invariant-loop-byte : goal.invariant-loop-byte
invariant-loop-byte l = list_all (between 48 57) (take l.byte-index l.word) ≡ true

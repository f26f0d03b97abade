use Rattle.std.proofs.Common.{◌≡◌, true, take}
use Rattle.std.specs.List.{list_all}
use Rattle.setup_values.specs.Kinds.{between}
use Rattle.setup_values.proofs.kinds.is_shown.Given as goal

abbrev pub invariant-loop-byte : goal.invariant-loop-byte
invariant-loop-byte l = list_all (between 32 126) (take l.byte-index l.text) ≡ true

use Rattle.std.proofs.Common.{◌≡◌, drop}
use Rattle.std.specs.Prelude.{find}
use Rattle.command_audit.specs.Spaces.{name_alike}
use Rattle.command_audit.proofs.spaces.first_alike.Given as goal

abbrev pub invariant-loop-other : goal.invariant-loop-other
invariant-loop-other l = find (name_alike l.slots) (drop l.other-index l.list) ≡ find (name_alike l.slots) l.list

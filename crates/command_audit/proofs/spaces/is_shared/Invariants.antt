use Rattle.std.proofs.Common.{◌≡◌, ◌==◌, ◌&&◌, not, false, take}
use Rattle.command_audit.specs.Spaces.{is_shared}
use Rattle.command_audit.proofs.spaces.is_shared.Given as goal

abbrev pub invariant-loop-other : goal.invariant-loop-other
invariant-loop-other l = is_shared (take l.other-index l.list) l.slots ≡ false

use Rattle.std.proofs.Common.{◌≡◌, false, take}
use Rattle.std.specs.List.{list_any}
use Rattle.command_audit.specs.Threads.{can_name}
use Rattle.command_audit.proofs.revokes.can_one_name.Given as goal

abbrev pub invariant-loop-thread : goal.invariant-loop-thread
invariant-loop-thread l = list_any (can_name l.slot) (take l.thread-index l.others) ≡ false

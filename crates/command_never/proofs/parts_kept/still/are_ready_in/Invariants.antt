use Rattle.std.proofs.Common.{◌≡◌, true, take}
use Rattle.std.specs.List.{list_all}
use Rattle.command_never.specs.Still.{is_ready_in}
use Rattle.command_never.proofs.parts_kept.still.are_ready_in.Given as goal

abbrev pub invariant-loop-thread : goal.invariant-loop-thread
invariant-loop-thread g l = list_all (is_ready_in g.P.Profile.profile l.callers.memory.now l.kernel l.part) (take l.thread-index l.callers.threads.now) ≡ true

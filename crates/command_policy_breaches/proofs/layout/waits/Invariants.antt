use Rattle.std.proofs.Common.{◌≡◌, ◌++◌, drop}
use Rattle.std.specs.List.{filter_map}
use Rattle.command_policy_breaches.specs.Layouts.{waiting_of}
use Rattle.command_policy_breaches.proofs.layout.waits.Given as goal

abbrev pub invariant-loop-thread : goal.invariant-loop-thread
invariant-loop-thread g l = l.waits.items ++ filter_map (waiting_of l.kernel) (drop l.thread-index l.threads) ≡ filter_map (waiting_of l.kernel) l.threads

use Rattle.std.proofs.Common.{◌≡◌, filter, not, take}
use Rattle.setup_report.specs.State.{is_in}
use Rattle.command_parts.proofs.threads.callers.Given as goal

abbrev pub invariant-loop-thread : goal.invariant-loop-thread
invariant-loop-thread l = l.callers.items ≡ filter (λ thread. not (is_in thread l.trusted)) (take l.thread-index l.threads)

use Rattle.std.proofs.Common.{◌≡◌, ℕ, not, map, filter}
use Rattle.std.specs.Map.Iter.{deref}
use Rattle.setup_report.specs.State.{is_in}
use Rattle.command_audit.proofs.threads.others.Given as goal

abbrev pub invariant-loop-thread : goal.invariant-loop-thread
invariant-loop-thread l = l.others.items ≡ filter (λ (thread : ℕ). not (is_in thread l.trusted)) (map deref l.yielded)

use Rattle.std.proofs.Common.{◌≡◌}
use Rattle.test_parts.proofs.waiters.steps.are_all_met.Given as goal

abbrev pub invariant-loop-step : goal.invariant-loop-step
invariant-loop-step g l = g.W.Waiters.memory_bits l.waiters ≡ 14

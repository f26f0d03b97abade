use Rattle.std.proofs.Common.{◌≡◌}
use Rattle.test_parts.proofs.waiters.both.both_forms_show_the_same.Given as goal

abbrev pub invariant-loop : goal.invariant-loop
invariant-loop g l = record { rows : l.rows.memory_bits ≡ 14; queues : l.queues.memory_bits ≡ 14 }

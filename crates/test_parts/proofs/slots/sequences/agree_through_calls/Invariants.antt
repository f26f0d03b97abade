use Rattle.std.proofs.Common.{◌≡◌}
use Rattle.test_parts.specs.TestForests.{IsTestForest}
use Rattle.test_parts.proofs.slots.sequences.agree_through_calls.Given as goal

abbrev pub invariant-loop : goal.invariant-loop
invariant-loop g l = record {
  rows_memory : g.R.CapStore.memory_bits l.rows ≡ 12;
  rows : IsTestForest g.P.Profile.profile (g.R.CapStore.forest l.rows);
  links_memory : g.L.CapStore.memory_bits l.links ≡ 12;
  links : IsTestForest g.P.Profile.profile (g.L.CapStore.forest l.links);
}

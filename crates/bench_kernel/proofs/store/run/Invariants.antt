use Rattle.std.proofs.Common.{◌≡◌, ◌≤◌}
use Rattle.cap_core.specs.declared.profile.ProfileName.TheVariants.{Wide}
use Rattle.kernel_forest.specs.Marked.{forest_of}
use Rattle.bench_kernel.specs.Cycle.{bench_memory_bits, whole}
use Rattle.bench_kernel.proofs.store.run.Given as goal

abbrev pub invariant-loop-i : goal.invariant-loop-i
invariant-loop-i l = record {
  memory : l.store.1 ≡ bench_memory_bits;
  forest : forest_of Wide l.store.0 ≡ whole;
  found : l.found ≤ l.i;
}

use Rattle.std.proofs.Common.{◌≡◌, ◌≤◌}
use Rattle.bench_kernel.specs.Cycle.{bench_memory_bits, family}
use Rattle.bench_kernel.proofs.store.remove_all.Given as goal

abbrev pub invariant-loop-left : goal.invariant-loop-left
invariant-loop-left g l = record {
  memory : g.S.CapStore.memory_bits l.store ≡ bench_memory_bits;
  forest : g.S.CapStore.forest l.store ≡ family l.left;
  few : l.left ≤ 64;
}

abbrev pub decreases-loop-left : goal.decreases-loop-left
decreases-loop-left g l = l.left
